-- Members that end ready have the same rows, stamps included.
use Rattle.std.proofs.Common.{◌≡◌, ℕ, ◌<◌, not, Bool, true, false, List, [], ◌∷◌, Option, Some, None}
use Rattle.std.proofs.Common.{refl, sym, ap, ◌∙◌, filter, cond}
use Rattle.std.specs.Prelude.{is_some, if◌then◌else◌}
use Rattle.std.specs.List.{filter_map, cons_option}
use Rattle.gr_stamp.specs.declared.change.Change.{Change}
use Rattle.gr_stamp.specs.Winner.{is_removal}
use Rattle.gr_history.specs.declared.deed.Deed.{Deed}
use Rattle.gr_history.specs.declared.record.ClientRecord.{ClientRecord}
use Rattle.gr_history.specs.Regions.{keys_of, all_standing}
use Rattle.gr_history.specs.Standing.{changes, standing}
use Rattle.gr_law.specs.Grids.{Among}
use Rattle.gr_law.specs.Laws.{AreAlso, took}
use Rattle.gr_law.proofs.Held.{same_entry-holds}
use Rattle.gr_law.proofs.Keys.{in_order_keys, same_filtered}
use Rattle.gr_law.proofs.Made.{older_itself}
use Rattle.gr_law.proofs.Took.{took_sound}
use Rattle.gr_law.proofs.Turning.{standing_key}
use Rattle.gr_script.specs.declared.line.Line.{Line}
use Rattle.gr_script.specs.Rules.{Heading, IsScript}
use Rattle.gr_world.specs.Grids.{Histories, grid_from}
use Rattle.gr_run_law.specs.Runs.{IsRun}
use Rattle.gr_run_law.specs.Closed.{EndsReady, HasSameRows}
use Rattle.gr_run_law.proofs.Lists.{none_isnt_some, same_in_some, true_false}
use Rattle.gr_run_law.proofs.Closed.{takes_all}

-- the change, where it is a put
abbrev put_of : Option Change → Option Change
put_of None = None
put_of (Some change) = if is_removal change.kind then None else Some change

-- the put that stands
abbrev put_at : List Deed → List ℕ → Option Change
put_at past key = put_of (standing key past)

put_of_put : (change : Change) → is_removal change.kind ≡ false → put_of (Some change) ≡ Some change
put_of_put change h = rw h refl

-- what is there of an option by `put_of` is a put
put_there : (o : Option Change) (change : Change) → put_of o ≡ Some change → (o ≡ Some change) × (is_removal change.kind ≡ false)
put_there None change e = absurd (none_isnt_some change e)
put_there (Some own) change e = at_test (is_removal own.kind) refl e
  where
    at_test : (b : Bool) → is_removal own.kind ≡ b → (if b then None else Some own) ≡ Some change
        → (Some own ≡ Some change) × (is_removal change.kind ≡ false)
    at_test true f e = absurd (none_isnt_some change e)
    at_test false f e = (e, ap (λ c. is_removal c.kind) (sym (same_in_some own change e)) ∙ f)

-- where a put that stands at either stands at the other too, the same put stands at both, or none
same_put : (one two : Option Change) → ((held : Change) → one ≡ Some held → is_removal held.kind ≡ false → two ≡ Some held)
    → ((held : Change) → two ≡ Some held → is_removal held.kind ≡ false → one ≡ Some held) → put_of one ≡ put_of two
same_put one two into back = at_puts (put_of one) (put_of two) refl refl
  where
    at_puts : (p q : Option Change) → put_of one ≡ p → put_of two ≡ q → p ≡ q
    at_puts None None e f = refl
    at_puts (Some x) q e f =
        let there = put_there one x e in
        sym (put_of_put x there.1) ∙ ap put_of (sym (into x there.0 there.1)) ∙ f
    at_puts None (Some y) e f =
        let there = put_there two y f in
        sym e ∙ ap put_of (back y there.0 there.1) ∙ put_of_put y there.1

-- ---- rows

-- the puts that stand, in the order of their keys
abbrev pub rows_left : List Deed → List Change
rows_left past = filter (λ change. not (is_removal change.kind)) (all_standing past)

rows_put : (past : List Deed) (keys : List (List ℕ))
    → filter (λ (c : Change). not (is_removal c.kind)) (filter_map (λ key. standing key past) keys)
    ≡ filter_map (put_at past) (filter (λ key. is_some (put_at past key)) keys)
rows_put past [] = refl
rows_put past (key ∷ keys) = at_standing (standing key past) (rows_put past keys) refl
  where
    Rest : List Change
    Rest = filter (λ (c : Change). not (is_removal c.kind)) (filter_map (λ key. standing key past) keys)

    at_kept : (o : Option Change) → put_at past key ≡ o
        → filter_map (put_at past) (cond (is_some o) (key ∷ filter (λ key. is_some (put_at past key)) keys)
        (filter (λ key. is_some (put_at past key)) keys))
        ≡ cons_option o (filter_map (put_at past) (filter (λ key. is_some (put_at past key)) keys))
    at_kept None e = refl
    at_kept (Some c) e = ap (λ o. cons_option o (filter_map (put_at past) (filter (λ key. is_some (put_at past key)) keys))) e

    at_standing : (o : Option Change)
        → filter (λ (c : Change). not (is_removal c.kind)) (filter_map (λ key. standing key past) keys)
        ≡ filter_map (put_at past) (filter (λ key. is_some (put_at past key)) keys)
        → standing key past ≡ o
        → filter (λ (c : Change). not (is_removal c.kind)) (cons_option (standing key past) (filter_map (λ key. standing key past) keys))
        ≡ filter_map (put_at past) (filter (λ key. is_some (put_at past key)) (key ∷ keys))
    at_standing o next e = lhs ∙ sym (rhs)
      where
        rhs : filter_map (put_at past) (filter (λ key. is_some (put_at past key)) (key ∷ keys))
            ≡ cons_option (put_of o) (filter_map (put_at past) (filter (λ key. is_some (put_at past key)) keys))
        rhs = at_kept (put_at past key) refl
            ∙ ap (λ x. cons_option (put_of x) (filter_map (put_at past) (filter (λ key. is_some (put_at past key)) keys))) e

        one : (o : Option Change) → filter (λ (c : Change). not (is_removal c.kind))
            (cons_option o (filter_map (λ key. standing key past) keys))
            ≡ cons_option (put_of o) (filter_map (put_at past) (filter (λ key. is_some (put_at past key)) keys))
        one None = next
        one (Some c) = at_test (is_removal c.kind)
          where
            at_test : (b : Bool)
                → cond (not b) (c ∷ filter (λ (c : Change). not (is_removal c.kind)) (filter_map (λ key. standing key past) keys))
                (filter (λ (c : Change). not (is_removal c.kind)) (filter_map (λ key. standing key past) keys))
                ≡ cons_option (if b then None else Some c) (filter_map (put_at past) (filter (λ key. is_some (put_at past key)) keys))
            at_test true = next
            at_test false = ap (λ l. c ∷ l) next

        lhs : filter (λ (c : Change). not (is_removal c.kind))
            (cons_option (standing key past) (filter_map (λ key. standing key past) keys))
            ≡ cons_option (put_of o) (filter_map (put_at past) (filter (λ key. is_some (put_at past key)) keys))
        lhs = ap (λ x. filter (λ (c : Change). not (is_removal c.kind)) (cons_option x (filter_map (λ key. standing key past) keys))) e
            ∙ one o

-- a key at which a put stands is one of the changes' keys
put_key : (past : List Deed) (key : List ℕ) → is_some (put_at past key) ≡ true → Among key (keys_of (changes past))
put_key past key h = at_standing (standing key past) refl h
  where
    at_standing : (o : Option Change) → standing key past ≡ o → is_some (put_of o) ≡ true → Among key (keys_of (changes past))
    at_standing None e f = absurd (true_false (sym f))
    at_standing (Some c) e f = standing_key key past c e

map_same : (f g : List ℕ → Option Change) → ((key : List ℕ) → f key ≡ g key) → (keys : List (List ℕ)) → filter_map f keys
    ≡ filter_map g keys
map_same f g same [] = refl
map_same f g same (key ∷ keys) =
    ap (λ o. cons_option o (filter_map f keys)) (same key) ∙ ap (cons_option (g key)) (map_same f g same keys)

filter_same : (p q : List ℕ → Bool) → ((key : List ℕ) → p key ≡ q key) → (keys : List (List ℕ)) → filter p keys ≡ filter q keys
filter_same p q same [] = refl
filter_same p q same (key ∷ keys) =
    ap (λ b. cond b (key ∷ filter p keys) (filter p keys)) (same key) ∙ ap (λ l. cond (q key) (key ∷ l) l) (filter_same p q same keys)

pub same_rows : (one two : List Deed) → ((key : List ℕ) → put_at one key ≡ put_at two key) → rows_left one ≡ rows_left two
same_rows one two same =
    let p = λ (key : List ℕ). is_some (put_at one key) in
    let q = λ (key : List ℕ). is_some (put_at two key) in
    let pq = λ (key : List ℕ). ap (λ (o : Option Change). is_some o) (same key) in
    let xs = keys_of (changes one) in
    let ys = keys_of (changes two) in
    rows_put one xs
    ∙ ap (filter_map (put_at one)) (same_filtered p xs ys (in_order_keys (changes one)) (in_order_keys (changes two))
    (λ key h. put_key one key h) (λ key h. put_key two key (sym (pq key) ∙ h)))
    ∙ ap (filter_map (put_at one)) (filter_same p q pq ys)
    ∙ map_same (put_at one) (put_at two) same (filter q ys)
    ∙ sym (rows_put two ys)

-- Members that end ready have the same rows.
pub rows_same : (heading : Heading) (lines : List Line) (histories : Histories) (records : List ClientRecord) → IsScript heading lines
    → IsRun heading lines histories records → (one two shard : ℕ) → EndsReady heading lines one → EndsReady heading lines two
    → shard < heading.shards → rows_left (histories one shard) ≡ rows_left (histories two shard)
rows_same heading lines histories records head r one two shard is_one is_two within =
    same_rows (histories one shard) (histories two shard) same
  where
    -- what a member took in the others took in
    also : (member other : ℕ) → EndsReady heading lines other → (key : List ℕ)
        → AreAlso key (took (grid_from heading histories shard) (histories member shard))
        (took (grid_from heading histories shard) (histories other shard))
    also member other is key change a of_key = takes_all heading lines histories records head r other shard is within change
        (took_sound (grid_from heading histories shard) (r.whole shard within).sound member (histories member shard)
        (older_itself (histories member shard)) ((r.whole shard within).sound.lawful member)
        ((r.whole shard within).sound.genuine member) change a).0

    same : (key : List ℕ) → put_at (histories one shard) key ≡ put_at (histories two shard) key
    same key =
        let entry = same_entry-holds (grid_from heading histories shard) (r.whole shard within) in
        let first = older_itself (histories one shard) in
        let second = older_itself (histories two shard) in
        same_put (standing key (histories one shard)) (standing key (histories two shard))
        (entry one two (histories one shard) (histories two shard) first second key (also one two is_two key) (also two one is_one key))
        (entry two one (histories two shard) (histories one shard) second first key (also two one is_one key) (also one two is_two key))

pub regions_same : (heading : Heading) (lines : List Line) (histories : Histories) (records : List ClientRecord) → IsScript heading lines
    → IsRun heading lines histories records → HasSameRows heading lines histories
regions_same heading lines histories records head r one two shard is_one is_two within left right of_one of_two =
    of_one.rows_are ∙ rows_same heading lines histories records head r one two shard is_one is_two within ∙ sym of_two.rows_are
