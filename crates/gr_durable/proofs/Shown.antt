-- The tables of a record show results.
use Rattle.std.proofs.Common.{zero, suc, ◌≡◌, ◌≢◌, ◌⊎◌, ℕ, ◌≤◌, ◌<◌, ◌+◌, List, [], ◌∷◌, ◌++◌, Bool, true, false, ◌==◌, ◌||◌, refl, sym, ap, ◌∙◌, subst, inl, inr, ⊎_elim}
use Rattle.std.proofs.Common.{arith, bytes_eq, if◌then◌else◌, map, flat_map}
use Rattle.std.specs.Prelude.{Option, Some, None, filter, length, reverse, is_some}
use Rattle.std.specs.Ordering.{nat_cmp, eq_by_cmp}
use Rattle.std.specs.Cmp.Lexicographic.{slice_cmp}
use Rattle.std.specs.List.{AllByRecursion, list_any}
use Rattle.std.specs.FinMap as finite
use Rattle.std.proofs.lemmas.Bool.Decides.{nat_tests}
use Rattle.std.proofs.lemmas.Map.Text.{is_eq-slice_cmp}
use Rattle.std.proofs.lemmas.Slice.Eq.{bytes_eq-Decides}
use Rattle.std.proofs.lemmas.List.{reverse-reverse}
use Rattle.gr_value.specs.declared.value.Field.{Field}
use Rattle.gr_value.specs.Shard.{shard_of}
use Rattle.gr_oql.specs.Events.{where_matching}
use Rattle.gr_oql.specs.Question.{Question}
use Rattle.gr_history.specs.declared.deed.Deed.{Deed}
use Rattle.gr_history.specs.declared.query_reply.Row.{Row}
use Rattle.gr_history.specs.declared.record.ClientRecord.{ClientRecord}
use Rattle.gr_history.specs.declared.record.MemberRecord.{MemberRecord}
use Rattle.gr_history.specs.declared.record.Record.{Record}
use Rattle.gr_history.specs.declared.record.ShardRecord.{ShardRecord}
use Rattle.gr_history.specs.Deeds.{is_of_client}
use Rattle.gr_history.specs.Places.{at_place}
use Rattle.gr_history.specs.Queries.{Opening, State, Neither, Running, Halted, rows_of, state}
use Rattle.gr_history.specs.Standing.{present}
use Rattle.gr_law.specs.Grids.{Among, Grid, Older, identity}
use Rattle.gr_law.specs.Integrity.{IsSound}
use Rattle.gr_law.specs.Laws.{law_3}
use Rattle.gr_law.specs.Queries.{IsAnswered, found}
use Rattle.gr_law.specs.QueryMaps.{Rows, map_of}
use Rattle.gr_law.proofs.Following.{found_rows}
use Rattle.gr_law.proofs.InOrder.{rows_in_order}
use Rattle.gr_law.proofs.Lists.{among_either, among_left, among_right, cases_le}
use Rattle.gr_law.proofs.Made.{at_place-older, older_itself}
use Rattle.gr_law.proofs.Queries.{lawful_answered}
use Rattle.gr_law.proofs.Winners.{bytes_eq-itself}
use Rattle.gr_script.specs.declared.line.Line.{Line}
use Rattle.gr_script.specs.Rules.{Heading, IsStated, home_of}
use Rattle.gr_script.specs.Steps.{steps_of}
use Rattle.gr_world.specs.Grids.{Histories, grid_from}
use Rattle.gr_world.specs.Courses.{course}
use Rattle.gr_world.specs.Events.{Event, history}
use Rattle.gr_world.specs.Histories.{KeepsLaws, deeds_at, history_at}
use Rattle.gr_world.specs.Numbered.{numbers_from}
use Rattle.gr_world.specs.Records.{IsReplayed, MemberHistories, histories_of, member_left}
use Rattle.gr_world.specs.Served.{AreServed, HasServed, client_of, histories_in, step_of}
use Rattle.gr_world.proofs.Events.{equal_numbers, same_number}
use Rattle.gr_durable.specs.declared.table.Table.{Table}
use Rattle.gr_durable.specs.Places.{opening_of, shown_upto}
use Rattle.gr_durable.specs.Results.{AreHeld, HasShards, HoldsResults, ShowsResult, TablesShowResults, result_shown, rows_at}
use Rattle.gr_durable.specs.Steps.{AreOfOpenQueries, HasOpen, is_open_behind}
use Rattle.gr_by_key.specs.Maps.{names_in}
use Rattle.gr_durable.specs.Tables.{Held, held_after, held_by, in_order, list_of, names_held, rows_in, rows_named, rows_over, shards_of, table_of, tables_by, tables_held, tables_of}
use Rattle.gr_durable.proofs.Keyed.{present_key}
use Rattle.gr_durable.proofs.Openness.{is_open, open_after, open_everywhere, open_history, open_own}
use Rattle.gr_durable.proofs.Played.{holds_results}
use Rattle.gr_durable.proofs.Rows.{first_of, found_append, found_in_order, found_kept, found_list, get_map, kept_sorted, list_sorted, same_rows}

-- ---- where a table comes from

among_flat_map : {A B : Type 0} → (f : A → List B) (y : B) (xs : List A) → Among y (flat_map f xs) → (x : A) × Among x xs × Among y (f x)
among_flat_map f y [] a = absurd a
among_flat_map f y (x ∷ xs) a =
    ⊎_elim (λ here. (x, inl refl, here))
    (λ there. let r = among_flat_map f y xs there in (r.0, inr r.1, r.2))
    (among_either y (f x) (flat_map f xs) a)

among_map : {A B : Type 0} → (f : A → B) (y : B) (xs : List A) → Among y (map f xs) → (x : A) × Among x xs × (y ≡ f x)
among_map f y [] a = absurd a
among_map f y (x ∷ xs) (inl is) = (x, inl refl, is)
among_map f y (x ∷ xs) (inr a) = let r = among_map f y xs a in (r.0, inr r.1, r.2)

pub among_numbers : {A : Type 0} → (from n : ℕ) (f : ℕ → A) (y : A) → Among y (numbers_from from n f)
    → (i : ℕ) × (from ≤ i) × (i < from + n) × (y ≡ f i)
among_numbers from zero f y a = absurd a
among_numbers from (suc n) f y (inl is) = (from, omega arith, omega arith, is)
among_numbers from (suc n) f y (inr a) =
    let r = among_numbers (suc from) n f y a in
    (r.0, omega (arith, r.1), omega (arith, r.2), r.3)

-- ---- the shards of a member

history_of : (shard member : ℕ) (members : List MemberRecord)
    → history_at shard (map histories_of members) member ≡ reverse (deeds_at shard (map (λ one. one.history.deeds) (shards_of member members)))
history_of shard member [] = refl
history_of shard member (first ∷ rest) = at_test (first.member == member) (history_of shard member rest)
  where
    at_test : (t : Bool)
        → history_at shard (map histories_of rest) member ≡ reverse (deeds_at shard (map (λ one. one.history.deeds) (shards_of member rest)))
        → (if t then reverse (deeds_at shard (map (λ one. one.history.deeds) first.shards)) else history_at shard (map histories_of rest) member)
        ≡ reverse (deeds_at shard (map (λ one. one.history.deeds) (if t then first.shards else shards_of member rest)))
    at_test true next = refl
    at_test false next = next

all_shards : (shards member : ℕ) (members : List MemberRecord) → AllByRecursion (λ one. length one.shards ≡ shards) members
    → (shards_of member members ≡ []) ⊎ (length (shards_of member members) ≡ shards)
all_shards shards member [] all = inl refl
all_shards shards member (first ∷ rest) all = at_test (first.member == member) (all_shards shards member rest all.1)
  where
    at_test : (t : Bool) → (shards_of member rest ≡ []) ⊎ (length (shards_of member rest) ≡ shards)
        → ((if t then first.shards else shards_of member rest) ≡ [])
        ⊎ (length (if t then first.shards else shards_of member rest) ≡ shards)
    at_test true next = inr all.0
    at_test false next = next

-- ---- of several shards, the rows of a key stand at one

abbrev held_at : ℕ → ℕ → List ShardRecord → Held
held_at client n shards = held_after client (reverse (deeds_at n (map (λ one. one.history.deeds) shards)))

first_none : {A : Type 0} → (o : Option A) → first_of o None ≡ o
first_none None = refl
first_none (Some x) = refl

found_nowhere : (client : ℕ) (name key : List ℕ) (shards : List ShardRecord)
    → ((n : ℕ) → n < length shards → found (rows_named name (held_at client n shards)) key ≡ None)
    → found (flat_map (rows_named name) (map (held_by client) shards)) key ≡ None
found_nowhere client name key [] none = refl
found_nowhere client name key (first ∷ rest) none =
    found_append (rows_named name (held_by client first)) (flat_map (rows_named name) (map (held_by client) rest)) key
    ∙ ap (λ o. first_of o (found (flat_map (rows_named name) (map (held_by client) rest)) key)) (none 0 (omega arith))
    ∙ found_nowhere client name key rest (λ n within. none (suc n) (omega (arith, within)))

found_once : (client : ℕ) (name key : List ℕ) (shard : ℕ) (shards : List ShardRecord) → shard < length shards
    → ((n : ℕ) → n < length shards → n ≢ shard → found (rows_named name (held_at client n shards)) key ≡ None)
    → found (flat_map (rows_named name) (map (held_by client) shards)) key ≡ found (rows_named name (held_at client shard shards)) key
found_once client name key shard [] within others = absurd (omega (arith, within))
found_once client name key zero (first ∷ rest) within others =
    found_append (rows_named name (held_by client first)) (flat_map (rows_named name) (map (held_by client) rest)) key
    ∙ ap (first_of (found (rows_named name (held_by client first)) key))
    (found_nowhere client name key rest (λ n inside. others (suc n) (omega (arith, inside)) (λ e. absurd (omega (arith, e)))))
    ∙ first_none (found (rows_named name (held_by client first)) key)
found_once client name key (suc shard) (first ∷ rest) within others =
    found_append (rows_named name (held_by client first)) (flat_map (rows_named name) (map (held_by client) rest)) key
    ∙ ap (λ o. first_of o (found (flat_map (rows_named name) (map (held_by client) rest)) key))
    (others 0 (omega arith) (λ e. absurd (omega (arith, e))))
    ∙ found_once client name key shard rest (omega (arith, within))
    (λ n inside apart. others (suc n) (omega (arith, inside)) (λ e. apart (omega (arith, e))))

-- ---- names

clash : true ≡ false → ⊥
clash e = cc

name_there : (name : List ℕ) (names : List (List ℕ)) → Among name names → list_any (eq_by_cmp (slice_cmp nat_cmp) name) names ≡ true
name_there name [] a = absurd a
name_there name (first ∷ rest) a = at_test (eq_by_cmp (slice_cmp nat_cmp) name first) refl a (name_there name rest)
  where
    at_test : (t : Bool) → eq_by_cmp (slice_cmp nat_cmp) name first ≡ t → Among name (first ∷ rest)
        → (Among name rest → list_any (eq_by_cmp (slice_cmp nat_cmp) name) rest ≡ true)
        → list_any (eq_by_cmp (slice_cmp nat_cmp) name) (first ∷ rest) ≡ true
    at_test true e a next = rw e refl
    at_test false e (inl is) next =
        absurd (clash (sym (is_eq-slice_cmp name first ∙ (bytes_eq-Decides name first).1 is) ∙ e))
    at_test false e (inr a) next = rw e (next a)

abbrev IsThere : {A : Type 0} → Option A → Type 0
IsThere o = is_some o ≡ true

named_there : (held : Held) (name : List ℕ) → Among name (names_in held) → IsThere (finite.get held name)
named_there held name a = finite.contains_key-keys held name ∙ name_there name (names_in held) a

open_of : (s : State) (place : ℕ) (history : List Deed) → IsThere (result_shown (opening_of s) place history) → is_open s ≡ true
open_of Neither place history e = absurd (cc)
open_of (Running opening) place history e = refl
open_of (Halted opening stop) place history e = refl

opening_there : (s : State) → is_open s ≡ true → (opening : Opening) × (opening_of s ≡ Some opening)
opening_there Neither e = absurd (cc)
opening_there (Running opening) e = (opening, refl)
opening_there (Halted opening stop) e = (opening, refl)

name_at_first : (client : ℕ) (name : List ℕ) (shards : List ShardRecord) → Among name (names_held (map (held_by client) shards))
    → IsThere (finite.get (held_at client 0 shards) name)
name_at_first client name [] a = absurd a
name_at_first client name (first ∷ rest) a = named_there (held_by client first) name a

no_name : (client : ℕ) (name : List ℕ) (shards : List ShardRecord) → shards ≡ [] → Among name (names_held (map (held_by client) shards)) → ⊥
no_name client name [] e a = a
no_name client name (first ∷ rest) e a = absurd (cc)

some_shard : (client : ℕ) (name : List ℕ) (shards : List ShardRecord) → Among name (names_held (map (held_by client) shards))
    → 0 < length shards
some_shard client name [] a = absurd a
some_shard client name (first ∷ rest) a = omega arith

any_among : (name : List ℕ) (names : List (List ℕ)) → list_any (eq_by_cmp (slice_cmp nat_cmp) name) names ≡ true → Among name names
any_among name [] e = absurd (cc)
any_among name (first ∷ rest) e = at_test (eq_by_cmp (slice_cmp nat_cmp) name first) refl e (any_among name rest)
  where
    at_test : (t : Bool) → eq_by_cmp (slice_cmp nat_cmp) name first ≡ t
        → (t || list_any (eq_by_cmp (slice_cmp nat_cmp) name) rest) ≡ true
        → (list_any (eq_by_cmp (slice_cmp nat_cmp) name) rest ≡ true → Among name rest) → Among name (first ∷ rest)
    at_test true is e next = inl ((bytes_eq-Decides name first).0 (sym (is_eq-slice_cmp name first) ∙ is))
    at_test false is e next = inr (next e)

named_at_first : (client : ℕ) (name : List ℕ) (shards : List ShardRecord) → IsThere (finite.get (held_at client 0 shards) name)
    → Among name (names_held (map (held_by client) shards))
named_at_first client name [] e = absurd (clash (sym e ∙ ap is_some (finite.get-empty (slice_cmp nat_cmp) name)))
named_at_first client name (first ∷ rest) e =
    any_among name (names_in (held_by client first)) (sym (finite.contains_key-keys (held_by client first) name) ∙ e)

map_among : {A B : Type 0} → (f : A → B) (x : A) (xs : List A) → Among x xs → Among (f x) (map f xs)
map_among f x [] a = absurd a
map_among f x (first ∷ xs) (inl is) = inl (ap f is)
map_among f x (first ∷ xs) (inr a) = inr (map_among f x xs a)

flat_map_among : {A B : Type 0} → (f : A → List B) (x : A) (y : B) (xs : List A) → Among x xs → Among y (f x) → Among y (flat_map f xs)
flat_map_among f x y [] a there = absurd a
flat_map_among f x y (first ∷ xs) (inl is) there =
    among_left y (f first) (flat_map f xs) (subst (λ z. Among y (f z)) is there)
flat_map_among f x y (first ∷ xs) (inr a) there = among_right y (f first) (flat_map f xs) (flat_map_among f x y xs a there)

numbers_among : {A : Type 0} → (from n : ℕ) (f : ℕ → A) (i : ℕ) → from ≤ i → i < from + n → Among (f i) (numbers_from from n f)
numbers_among from zero f i low high = absurd (omega (arith, low, high))
numbers_among from (suc n) f i low high = at_order
    (λ above. numbers_among (suc from) n f i above (omega (arith, high))) (cases_le i from)
  where
    at_order : (suc from ≤ i → Among (f i) (numbers_from (suc from) n f)) → (i ≤ from) ⊎ (from < i) → Among (f i) (f from ∷ numbers_from (suc from) n f)
    at_order rest (inl is) = inl (ap f (omega (arith, is, low)))
    at_order rest (inr above) = inr (rest above)

-- ---- a record in which clients were served

module _ (heading : Heading) (lines : List Line) (left : Record) (served : HasServed heading lines left) (all : HasShards heading left) (held : AreHeld heading left) where
  answered : (member shard : ℕ) → shard < heading.shards → IsAnswered (histories_in left member shard)
  answered member shard within =
      lawful_answered (identity (grid_from heading (histories_in left) shard) member) heading.floor (histories_in left member shard)
      ((held shard within).0.lawful member)

  -- a key of another shard has no row in a result
  no_result : (member shard : ℕ) → shard < heading.shards → (question : Question) (place : ℕ) (key : List ℕ)
      → shard ≢ shard_of key heading.shards → found (rows_of question (at_place place (histories_in left member shard))) key ≡ None
  no_result member shard within question place key apart =
      found_rows question tail key ∙ at_present (present key tail) refl
    where
      tail : List Deed
      tail = at_place place (histories_in left member shard)

      at_present : (o : Option (List Field)) → present key tail ≡ o → where_matching question (present key tail) ≡ None
      at_present None e = ap (where_matching question) e
      at_present (Some value) e = absurd (apart (present_key heading lines (histories_in left) left.clients served shard within
          (held shard within).0 (held shard within).1 member tail (at_place-older place (histories_in left member shard)) key value e))

  module _ (client : ℕ) (stated : IsStated client heading) (name : List ℕ) where
    abbrev home : ℕ
    home = home_of heading client

    abbrev shards : List ShardRecord
    shards = shards_of home left.members

    abbrev past : ℕ → List Deed
    past shard = histories_in left home shard

    abbrev place : ℕ → ℕ
    place shard = shown_upto client name (past shard)

    shown : (shard : ℕ) → shard < heading.shards
        → finite.get (held_at client shard shards) name ≡ result_shown (opening_of (state client name (past shard))) (place shard) (past
        shard)
    shown shard within =
        ap (λ h. finite.get (held_after client h) name) (sym (history_of shard home left.members))
        ∙ holds_results client (past shard) (answered home shard within) name

    found_at : (shard : ℕ) → shard < heading.shards → (opening : Opening) → opening_of (state client name (past shard)) ≡ Some opening
        → (key : List ℕ) → found (rows_named name (held_at client shard shards)) key
        ≡ found (rows_of opening.question (at_place (place shard) (past shard))) key
    found_at shard within opening is key =
        let rows = rows_of opening.question (at_place (place shard) (past shard)) in
        ap (λ o. found (rows_in o) key) (shown shard within ∙ ap (λ o. result_shown o (place shard) (past shard)) is)
        ∙ found_list (map_of rows) key ∙ get_map rows key

    none_elsewhere : (shard : ℕ) → shard < heading.shards → (key : List ℕ) → shard ≢ shard_of key heading.shards
        → found (rows_named name (held_at client shard shards)) key ≡ None
    none_elsewhere shard within key apart =
        ap (λ o. found (rows_in o) key) (shown shard within) ∙ at_opening (opening_of (state client name (past shard)))
      where
        at_opening : (o : Option Opening) → found (rows_in (result_shown o (place shard) (past shard))) key ≡ None
        at_opening None = refl
        at_opening (Some opening) =
            let rows = rows_of opening.question (at_place (place shard) (past shard)) in
            found_list (map_of rows) key ∙ get_map rows key
            ∙ no_result home shard within opening.question (place shard) key apart

    open_at : (shard : ℕ) → shard < heading.shards → is_open (state client name (past shard)) ≡ is_open_behind name false (steps_of client lines)
    open_at shard within =
        open_history client name (past shard) (answered home shard within)
        ∙ open_own client name false (reverse (past shard))
        ∙ ap (open_after client name false) ((served.each client stated).deeds shard within)
        ∙ open_everywhere client heading.shards shard name false (served.served client)
        ∙ ap (is_open_behind name false) (served.each client stated).steps

    enough : Among name (names_held (map (held_by client) shards)) → length shards ≡ heading.shards
    enough named = ⊎_elim (λ none. absurd (no_name client name shards none named)) (λ is. is) (all_shards heading.shards home left.members all)

    open_first : Among name (names_held (map (held_by client) shards)) → 0 < heading.shards → is_open (state client name (past 0)) ≡ true
    open_first named some = open_of (state client name (past 0)) (place 0) (past 0)
        (subst IsThere (shown 0 some) (name_at_first client name shards named))

    named_open : Among name (names_held (map (held_by client) shards)) → HasOpen lines client name
    named_open named =
        let some : 0 < heading.shards = omega (arith, some_shard client name shards named, enough named) in
        sym (open_at 0 some) ∙ open_first named some

    open_named : 0 < heading.shards → HasOpen lines client name → Among name (names_held (map (held_by client) shards))
    open_named some has =
        let opening = opening_there (state client name (past 0)) (open_at 0 some ∙ has) in
        named_at_first client name shards
        (subst IsThere (sym (shown 0 some ∙ ap (λ o. result_shown o (place 0) (past 0)) opening.1)) refl)

    shows : Among name (names_held (map (held_by client) shards)) → (shard : ℕ) → shard < heading.shards
        → ShowsResult heading.shards shard (past shard) (table_of client (map (held_by client) shards) name)
    shows named shard within = record {
      opening = opening;
      opened = open_here.1;
      rows_are = same_rows (rows_at heading.shards shard (in_order rows)) result
          (kept_sorted (λ key. shard_of key heading.shards == shard) (in_order rows) (list_sorted (map_of rows)))
          (rows_in_order opening.question (at_place (place shard) (past shard)))
          (λ key. found_kept (λ key. shard_of key heading.shards == shard) (in_order rows) key
          ∙ at_test key (shard_of key heading.shards == shard) refl);
    }
      where
        some : 0 < heading.shards
        some = omega (arith, within)

        open_here : (opening : Opening) × (opening_of (state client name (past shard)) ≡ Some opening)
        open_here = opening_there (state client name (past shard)) (open_at shard within ∙ sym (open_at 0 some) ∙ open_first named some)

        opening : Opening
        opening = open_here.0

        rows : List Row
        rows = flat_map (rows_named name) (map (held_by client) shards)

        result : List Row
        result = rows_of opening.question (at_place (place shard) (past shard))

        at_test : (key : List ℕ) (t : Bool) → (shard_of key heading.shards == shard) ≡ t
            → (if t then found (in_order rows) key else None) ≡ found result key
        at_test key true e =
            found_in_order rows key
            ∙ found_once client name key shard shards (omega (arith, within, enough named))
            (λ n inside apart. none_elsewhere n (omega (arith, inside, enough named)) key
            (λ same. apart (same ∙ equal_numbers (shard_of key heading.shards) shard e)))
            ∙ found_at shard within opening open_here.1 key
        at_test key false e =
            sym (no_result home shard within opening.question (place shard) key
            (λ same. clash (sym (ap (λ n. n == shard) (sym same) ∙ same_number shard) ∙ e)))

  -- which client and query a table is of
  record IsOf (table : Table) : Type 0 where
    client : ℕ
    stated : IsStated client heading
    name : List ℕ
    named : Among name (names_held (map (held_by client) (shards_of (home_of heading client) left.members)))
    table_is : table ≡ table_of client (map (held_by client) (shards_of (home_of heading client) left.members)) name

  is_of : (table : Table) → Among table (tables_of left) → IsOf table
  is_of table a =
      let by = among_flat_map (tables_by left.members) table left.clients a in
      let numbered = among_numbers 1 (length heading.clients) (client_of heading served.served) by.0
      (subst (Among by.0) served.answers by.1) in
      let client = numbered.0 in
      let helds = map (held_by client) (shards_of (home_of heading client) left.members) in
      let there : Among table (tables_held client helds) = subst (λ one. Among table (tables_by left.members one)) numbered.3 by.2 in
      let named = among_map (table_of client helds) table (names_held helds) there in
      record { client = client; stated = (numbered.1, omega (arith, numbered.2)); name = named.0; named = named.1; table_is = named.2 }

  pub tables_show : TablesShowResults heading left
  tables_show table a shard within =
      let one = is_of table a in
      subst (λ t. ShowsResult heading.shards shard (histories_in left (home_of heading t.client) shard) t) (sym one.table_is)
      (shows one.client one.stated one.name one.named shard within)

  pub tables_of_open : 1 ≤ heading.shards → AreOfOpenQueries heading lines left
  tables_of_open some = record {
    open_ones = λ table a.
        let one = is_of table a in
        subst (λ t. IsStated t.client heading × HasOpen lines t.client t.name) (sym one.table_is)
        (one.stated, named_open one.client one.stated one.name one.named);
    all = λ client name stated has.
        let helds = map (held_by client) (shards_of (home_of heading client) left.members) in
        record {
          table = table_of client helds name;
          among = flat_map_among (tables_by left.members) (client_of heading served.served client) (table_of client helds name) left.clients
              (subst (Among (client_of heading served.served client)) (sym served.answers)
              (numbers_among 1 (length heading.clients) (client_of heading served.served) client stated.0 (omega (arith, stated.1))))
              (map_among (table_of client helds) name (names_held helds) (open_named client stated name (omega (arith, some)) has));
          client_is = refl;
          name_is = refl;
        };
  }

-- ---- a replay has all shards

numbers_length : {A : Type 0} → (from n : ℕ) (f : ℕ → A) → length (numbers_from from n f) ≡ n
numbers_length from zero f = refl
numbers_length from (suc n) f = ap suc (numbers_length (suc from) n f)

deeds_length : (shards : List ShardRecord) → length (map (λ shard. shard.history.deeds) shards) ≡ length shards
deeds_length [] = refl
deeds_length (shard ∷ shards) = ap suc (deeds_length shards)

abbrev HaveShards : ℕ → List MemberHistories → Type 0
HaveShards shards all = AllByRecursion (λ one. length one.shards ≡ shards) all

left_have : (heading : Heading) (events : List Event) (from n : ℕ)
    → HaveShards heading.shards (numbers_from from n (member_left heading events))
left_have heading events from zero = tt
left_have heading events from (suc n) = (
  numbers_length 0 heading.shards (λ shard. reverse (history from shard events)),
  left_have heading events (suc from) n,
)

records_have : (number : ℕ) (members : List MemberRecord) → HaveShards number (map histories_of members)
    → AllByRecursion (λ one. length one.shards ≡ number) members
records_have number [] all = tt
records_have number (one ∷ members) all = (sym (deeds_length one.shards) ∙ all.0, records_have number members all.1)

pub replay_shards : (heading : Heading) (lines : List Line) (left : Record) → IsReplayed heading lines left → HasShards heading left
replay_shards heading lines left replayed =
    records_have heading.shards left.members
    (subst (HaveShards heading.shards) (sym replayed.members)
    (left_have heading (course heading (reverse lines)) 1 heading.members))

pub replays_show : (heading : Heading) (lines : List Line) (gone : List ℕ) (left : Record) → IsReplayed heading lines left
    → HasServed heading lines left → KeepsLaws heading gone left → TablesShowResults heading left
replays_show heading lines gone left replayed served laws =
    tables_show heading lines left served (replay_shards heading lines left replayed)
    (λ shard within. ((laws shard within).sound, (laws shard within).held))
