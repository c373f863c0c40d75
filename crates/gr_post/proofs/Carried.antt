-- What holds of a courier always.
use Rattle.std.proofs.Common.{
  ◌≡◌,
  ◌<◌,
  ◌≤◌,
  ℕ,
  suc,
  Bool,
  true,
  false,
  true≢false,
  List,
  [],
  ◌∷◌,
  ◌++◌,
  length,
  map,
  reverse,
  get_or,
  Option,
  Some,
  None,
  Result,
  Ok,
  Err,
  OnErr,
  sym,
  refl,
  ap,
  ◌∙◌,
  subst,
  append_assoc,
  arith,
  if◌then◌else◌,
}
use Rattle.std.proofs.lemmas.List.{length-map, get_or-map, reverse-append}
use Rattle.atomic_table.specs.Seated.{TableId}
use Rattle.gr_post.specs.declared.mail.Mail.{Mail}
use Rattle.gr_post.specs.declared.mail.Posting.{Posting}
use Rattle.gr_post.specs.declared.fate.Held.{Held}
use Rattle.gr_post.specs.declared.fate.Fate.{Fate}
use Rattle.gr_post.specs.declared.fate.Fate.TheVariants.{Last}
use Rattle.gr_post.specs.declared.stage.Stage.{Stage}
use Rattle.gr_post.specs.declared.stage.Stage.TheVariants.{Open, Ended, Stopped}
use Rattle.gr_post.specs.Passes.{Ring, Sending}
use Rattle.gr_post.specs.Plan.{Draw, is_named, number_before, number_after, draws, fate, released_by, held_by, held, released}
use Rattle.gr_post.specs.Lanes.{
  Way,
  new_way,
  pass_of,
  Moves,
  settled,
  ready_with,
  ready_for,
  settled_by,
  stopped,
  is_none,
  AreTheirs,
  AreTried,
  NoneWaits,
  WasRefused,
}
use Rattle.gr_post.specs.Couriers.{
  Line,
  line_of,
  Carrying,
  carrying,
  Follows,
  HoldsBack,
  FollowsPlan,
  IsCarried,
  LineMoves,
  IsEachTried,
  NothingWaits,
  IsRefused,
  stopped_line,
  begun,
}
use Rattle.gr_value.specs.Counts.{Rose}
use Rattle.gr_value.specs.Drawing.{drawn}

pub way_of : Line → Way
way_of d = record { pass = d.pass; waiting = d.waiting; held = []; ready = None }

-- the line at a place is that of the way there
pub at_line : (ways : List Way) (k : ℕ) (d : Line) → k < length ways → get_or (map line_of ways) k d ≡ line_of (get_or ways k (way_of d))
at_line ways k d lt = get_or-map line_of ways k (way_of d) d lt

pub below : (ways : List Way) (k : ℕ) → k < length (map line_of ways) → k < length ways
below ways k lt = subst (λ (n : ℕ). k < n) (length-map ways line_of) lt

pub follows_plan : (ways : List Way) (posted : List Posting) (first number : ℕ) (stage : Stage) → IsCarried ways posted first number stage
    → FollowsPlan (carrying ways posted first stage)
follows_plan ways posted first number stage c k d lt =
    let here = below ways k lt in
    subst (λ (y : ℕ × Line). Follows (draws y.0 first k (reverse posted)) stage (y.1.pass.sent ++ y.1.waiting))
    (λ i. (sym (length-map ways line_of) i, sym (at_line ways k d here) i)) (c.follows k (way_of d) here)

-- of a courier that callers see open
pub was_open : (ways : List Way) (posted : List Posting) (first number : ℕ) (stage : Stage) (seen : Carrying)
    → carrying ways posted first stage ≡ seen → seen.stage ≡ Open → IsCarried ways posted first number stage
    → IsCarried ways posted first number Open
was_open ways posted first number stage seen view_is open_ c =
    subst (IsCarried ways posted first number) (ap (λ (k : Carrying). k.stage) view_is ∙ open_) c

-- where f of each is g of each, f of all is g of all
pub map_same : {A B : Type 0} (f g : A → B) (xs ys : List A) → length ys ≡ length xs
    → ((k : ℕ) (d : A) → k < length xs → f (get_or ys k d) ≡ g (get_or xs k d)) → map f ys ≡ map g xs
map_same f g [] [] n e = refl
map_same f g [] (y ∷ ys) n e = absurd (omega arith)
map_same f g (x ∷ xs) [] n e = absurd (omega arith)
map_same f g (x ∷ xs) (y ∷ ys) n e =
    let head = e 0 x (omega arith) in
    let tail = map_same f g xs ys (omega arith) (λ k d lt. e (suc k) d (omega arith)) in
    λ i. head i ∷ tail i

pub map_twice : {A B C : Type 0} (g : B → C) (f : A → B) (xs : List A) → map g (map f xs) ≡ map (λ x. g (f x)) xs
map_twice g f [] = refl
map_twice g f (x ∷ xs) = ap (λ l. g (f x) ∷ l) (map_twice g f xs)

-- the passes are the same where each way's pass is
pub passes_same : (xs ys : List Way) → length ys ≡ length xs → ((k : ℕ) (d : Way) → k < length xs → (get_or ys k d).pass ≡
    (get_or xs k d).pass)
    → map (λ (l : Line). l.pass) (map line_of ys) ≡ map (λ (l : Line). l.pass) (map line_of xs)
passes_same xs ys n e =
    let p : Line → Sending = λ l. l.pass in
    map_twice p line_of ys ∙ map_same pass_of pass_of xs ys n e ∙ sym (map_twice p line_of xs)

-- ---- each step

step : (named : Bool) (ds : List Draw) (d : Draw) (way : Way) → way.pass.sent ++ way.waiting ≡ released ds → way.held ≡ held ds
    → (w : Way) → w ≡ settled (ready_with (if named then Some (fate d.mail d.number) else None) way)
    → (w.pass.sent ++ w.waiting ≡ released (if named then d ∷ ds else ds)) × (w.held ≡ held (if named then d ∷ ds else ds))
step true ds d way sent back w is =
    let f = fate d.mail d.number in (
      ap (λ (y : Way). y.pass.sent ++ y.waiting) is ∙ sym (append_assoc way.pass.sent way.waiting (released_by f way.held))
          ∙ (λ i. sent i ++ released_by f (back i)),
      ap (λ (y : Way). y.held) is ∙ ap (λ (h : List Held). held_by f h) back,
    )
step false ds d way sent back w is = (ap (λ (y : Way). y.pass.sent ++ y.waiting) is ∙ sent, ap (λ (y : Way). y.held) is ∙ back)

pub posts : (ways mid now : List Way) (posted posted' : List Posting) (one : Posting) (first number after : ℕ) → IsCarried ways posted
    first number Open
    → length mid ≡ length ways → length now ≡ length mid → after ≡ number_before number one.to (length ways)
    → ((k : ℕ) (d : Way) → k < length ways → get_or mid k d ≡ ready_for one.mail one.to number k (get_or ways k d))
    → ((k : ℕ) (d : Way) → k < length mid → get_or now k d ≡ settled (get_or mid k d))
    → posted' ≡ posted ++ one ∷ [] → IsCarried now posted' first after Open
posts ways mid now posted posted' one first number after c n m number_is ready each is =
    let long : length now ≡ length ways = m ∙ n in
    let back : reverse posted' ≡ one ∷ reverse posted = ap reverse is ∙ reverse-append posted (one ∷ []) in
    let draw : ℕ → Draw = λ k. record {
      mail = one.mail;
      number = drawn (number_before (number_after (length ways) first (reverse posted)) one.to k);
    } in
    let same : (k : ℕ) (d : Way) → k < length ways → get_or now k d
    ≡ settled (ready_with (if is_named one.to k then Some (fate (draw k).mail (draw k).number) else None) (get_or ways k d)) =
    λ k d lt. each k d (subst (λ (i : ℕ). k < i) (sym n) lt) ∙ ap settled (ready k d lt)
    ∙ ap (λ (x : ℕ). settled (ready_for one.mail one.to x k (get_or ways k d))) c.number_is in
    let both = λ (k : ℕ) (d : Way) (lt : k < length ways). step (is_named one.to k) (draws (length ways) first k (reverse posted)) (draw k)
    (get_or ways k d) (c.follows k d lt) (c.holds_back k d lt) (get_or now k d) (same k d lt) in
    record {
      few = subst (λ (i : ℕ). i ≤ 8) (sym long) c.few;
      number_is = number_is ∙ ap (λ (x : ℕ). number_before x one.to (length ways)) c.number_is
          ∙ (λ i. number_after (sym long i) first (sym back i));
      follows = λ k d lt. subst (λ (y : ℕ × List Posting). (get_or now k d).pass.sent ++ (get_or now k d).waiting ≡ released
          (draws y.0 first k y.1))
          (λ i. (sym long i, sym back i)) (both k d (subst (λ (i : ℕ). k < i) long lt)).0;
      holds_back = λ k d lt. subst (λ (y : ℕ × List Posting). (get_or now k d).held ≡ held (draws y.0 first k y.1))
          (λ i. (sym long i, sym back i)) (both k d (subst (λ (i : ℕ). k < i) long lt)).1;
    }

-- lists of one length, of which each way still goes by the plan
stays : (ways now : List Way) (posted : List Posting) (first number : ℕ) (stage stage' : Stage) → IsCarried ways posted first number
    stage → length now ≡ length ways
    → ((k : ℕ) (d : Way) → k < length ways → let ds = draws (length ways) first k (reverse posted) in
    Follows ds stage' ((get_or now k d).pass.sent ++ (get_or now k d).waiting) × HoldsBack ds stage' (get_or now k d))
    → IsCarried now posted first number stage'
stays ways now posted first number stage stage' c n each = record {
  few = subst (λ (i : ℕ). i ≤ 8) (sym n) c.few;
  number_is = c.number_is ∙ ap (λ (i : ℕ). number_after i first (reverse posted)) (sym n);
  follows = λ k d lt. subst (λ (i : ℕ). Follows (draws i first k (reverse posted)) stage'
      ((get_or now k d).pass.sent ++ (get_or now k d).waiting)) (sym n)
      (each k d (subst (λ (i : ℕ). k < i) n lt)).0;
  holds_back = λ k d lt. subst (λ (i : ℕ). HoldsBack (draws i first k (reverse posted)) stage' (get_or now k d)) (sym n)
      (each k d (subst (λ (i : ℕ). k < i) n lt)).1;
}

-- the same lines, with something made ready
pub readies : (ways now : List Way) (posted : List Posting) (first number : ℕ) (stage : Stage) → IsCarried ways posted first number stage
    → length now ≡ length ways
    → ((k : ℕ) (d : Way) → k < length ways → get_or now k d ≡ ready_with (get_or now k d).ready (get_or ways k d)) → IsCarried now posted
    first number stage
readies ways now posted first number stage c n same = stays ways now posted first number stage stage c n
    (λ k d lt. let ds = draws (length ways) first k (reverse posted) in
    subst (λ (w : Way). Follows ds stage (w.pass.sent ++ w.waiting) × HoldsBack ds stage w) (sym (same k d lt))
    (c.follows k d lt, by stage ds (get_or now k d).ready (get_or ways k d) (c.holds_back k d lt)))
  where
    by : (s : Stage) (ds : List Draw) (r : Option Fate) (w : Way) → HoldsBack ds s w → HoldsBack ds s (ready_with r w)
    by Open ds r w h = h
    by Ended ds r w h = h
    by Stopped ds r w h = h

pub ends : (ways mid now : List Way) (posted : List Posting) (first number : ℕ) → IsCarried ways posted first number Open → length mid ≡
    length ways → length now ≡ length mid
    → ((k : ℕ) (d : Way) → k < length ways → get_or mid k d ≡ ready_with (Some Last) (get_or ways k d))
    → ((k : ℕ) (d : Way) → k < length mid → get_or now k d ≡ settled (get_or mid k d)) → IsCarried now posted first number Ended
ends ways mid now posted first number c n m ready each = stays ways now posted first number Open Ended c (m ∙ n)
    (λ k d lt. let way = get_or ways k d in
    let is : get_or now k d ≡ settled (ready_with (Some Last) way) = each k d (subst (λ (i : ℕ). k < i) (sym n) lt) ∙ ap settled
    (ready k d lt) in (
      ap (λ (y : Way). y.pass.sent ++ y.waiting) is ∙ sym (append_assoc way.pass.sent way.waiting (released_by Last way.held))
          ∙ (λ i. c.follows k d lt i ++ released_by Last (c.holds_back k d lt i)),
      tt,
    ))

pub moves : (ways now : List Way) (posted : List Posting) (first number : ℕ) (stage : Stage) → IsCarried ways posted first number stage →
    length now ≡ length ways
    → ((k : ℕ) (d : Way) → k < length ways → Moves (get_or ways k d) (get_or now k d)) → IsCarried now posted first number stage
moves ways now posted first number stage c n each = stays ways now posted first number stage stage c n
    (λ k d lt. let ds = draws (length ways) first k (reverse posted) in
    let old = get_or ways k d in
    let new = get_or now k d in
    let e = each k d lt in
    let same : old.pass.sent ++ old.waiting ≡ new.pass.sent ++ new.waiting = ap (λ (l : List Mail). old.pass.sent ++ l) e.waiting
    ∙ sym (append_assoc old.pass.sent e.gone new.waiting) ∙ ap (λ (s : Sending). s.sent ++ new.waiting) (sym e.pass) in
    (subst (Follows ds stage) same (c.follows k d lt), by stage ds old new e.held (c.holds_back k d lt)))
  where
    by : (s : Stage) (ds : List Draw) (old new : Way) → new.held ≡ old.held → HoldsBack ds s old → HoldsBack ds s new
    by Open ds old new e h = e ∙ h
    by Ended ds old new e h = h
    by Stopped ds old new e h = h

pub stops : (ways now : List Way) (posted : List Posting) (first number : ℕ) (stage : Stage) → IsCarried ways posted first number stage →
    length now ≡ length ways
    → IsCarried now posted first number Stopped
stops ways now posted first number stage c n = stays ways now posted first number stage Stopped c n (λ k d lt. (tt, tt))

-- at the beginning
pub begins : (passes : List Sending) (ways : List Way) (first : ℕ) → ways ≡ map new_way passes → length passes ≤ 8
    → ((k : ℕ) (d : Sending) → k < length passes → (get_or passes k d).sent ≡ []) → IsCarried ways [] first first Open
begins passes ways first is few unused =
    let long : length ways ≡ length passes = ap length is ∙ length-map passes new_way in
    let at : (k : ℕ) (d : Way) → k < length ways → get_or ways k d ≡ new_way (get_or passes k d.pass) =
    λ k d lt. ap (λ (l : List Way). get_or l k d) is ∙ get_or-map new_way passes k d.pass d (subst (λ (i : ℕ). k < i) long lt) in
    record {
      few = subst (λ (i : ℕ). i ≤ 8) (sym long) few;
      number_is = refl;
      follows = λ k d lt. ap (λ (y : Way). y.pass.sent ++ y.waiting) (at k d lt)
          ∙ ap (λ (l : List Mail). l ++ []) (unused k d.pass (subst (λ (i : ℕ). k < i) long lt));
      holds_back = λ k d lt. ap (λ (y : Way). y.held) (at k d lt);
    }

-- ---- the same in the words of callers

pub line_moves : (ways now : List Way) → length now ≡ length ways → ((k : ℕ) (d : Way) → k < length ways → Moves (get_or ways k d)
    (get_or now k d))
    → (k : ℕ) (d : Line) → k < length (map line_of ways) → LineMoves (get_or (map line_of ways) k d) (get_or (map line_of now) k d)
line_moves ways now n each k d lt =
    let here = below ways k lt in
    let m = each k (way_of d) here in
    let moved : LineMoves (line_of (get_or ways k (way_of d))) (line_of (get_or now k (way_of d))) =
    record { gone = m.gone; waiting = m.waiting; pass = m.pass; rises = m.rises } in
    subst (λ (y : Line × Line). LineMoves y.0 y.1)
    (λ i. (sym (at_line ways k d here) i, sym (at_line now k d (subst (λ (j : ℕ). k < j) (sym n) here)) i)) moved

pub none_wait : (now : List Way) → NoneWaits now → NothingWaits (map line_of now)
none_wait now all k d lt = ap (λ (l : Line). l.waiting) (at_line now k d (below now k lt)) ∙ all k (way_of d) (below now k lt)

waits : (mails : List Mail) → (mails ≡ [] → ⊥) → is_none mails ≡ false
waits [] some = absurd (some refl)
waits (mail ∷ mails) some = refl

pub are_tried : (ways now : List Way) → length now ≡ length ways → AreTried ways now → IsEachTried (map line_of ways) (map line_of now)
are_tried ways now n each k d lt some =
    let here = below now k lt in
    let old = at_line ways k d (subst (λ (j : ℕ). k < j) n here) in
    let new = at_line now k d here in
    subst (λ (y : Line × Line). Rose y.0.pass.refused y.1.pass.refused) (λ i. (sym old i, sym new i))
    (each k (way_of d) here (waits _ (λ e. some (ap (λ (l : Line). l.waiting) new ∙ e))))

pub is_refused : (ways now : List Way) → length now ≡ length ways → WasRefused ways now → IsRefused (map line_of ways) (map line_of now)
is_refused ways now n was =
    let k = was.0 in (
      k,
      subst (λ (j : ℕ). k < j) (sym (length-map now line_of)) was.1,
      λ d. let w = was.2 (way_of d) in
          let old = at_line ways k d (subst (λ (j : ℕ). k < j) n was.1) in
          let new = at_line now k d was.1 in (
            λ e. true≢false (sym (ap is_none (sym (ap (λ (l : Line). l.waiting) new) ∙ e)) ∙ w.0),
            subst (λ (y : Line × Line). Rose y.0.pass.refused y.1.pass.refused) (λ i. (sym old i, sym new i)) w.1,
          ),
    )

-- the tables of callers, of the ways
tables_are : (ways : List Way) → map (λ (p : Sending). p.table) (map (λ (l : Line). l.pass) (map line_of ways)) ≡ map
    (λ (w : Way). w.pass.table) ways
tables_are ways = ap (map (λ (p : Sending). p.table)) (map_twice (λ (l : Line). l.pass) line_of ways) ∙ map_twice
    (λ (p : Sending). p.table) pass_of ways

pub are_theirs : (rings : List Ring) (ways : List Way) → map (λ (r : Ring). r.table) rings ≡ map (λ (p : Sending). p.table)
    (map (λ (l : Line). l.pass) (map line_of ways))
    → AreTheirs rings ways
are_theirs rings ways are =
    let table : Ring → TableId = λ r. r.table in
    let of : Way → TableId = λ w. w.pass.table in
    let e : map table rings ≡ map of ways = are ∙ tables_are ways in
    let n : length rings ≡ length ways = sym (length-map rings table) ∙ ap length e ∙ length-map ways of in (
      n,
      λ k r d lt. sym (get_or-map of ways k d (of d) lt) ∙ ap (λ (l : List TableId). get_or l k (of d)) (sym e)
          ∙ get_or-map table rings k r (of d) (subst (λ (j : ℕ). k < j) (sym n) lt),
    )

pub tables_same : (ways now : List Way) → length now ≡ length ways → ((k : ℕ) (d : Way) → k < length ways → Moves (get_or ways k d)
    (get_or now k d))
    → map (λ (p : Sending). p.table) (map (λ (l : Line). l.pass) (map line_of now)) ≡ map (λ (p : Sending). p.table)
    (map (λ (l : Line). l.pass) (map line_of ways))
tables_same ways now n each =
    let of : Way → TableId = λ w. w.pass.table in
    tables_are now ∙ map_same of of ways now n (λ k d lt. ap (λ (p : Sending). p.table) (each k d lt).pass) ∙ sym (tables_are ways)

settled_pass : (ready : Option Fate) (way : Way) → (settled_by ready way).pass ≡ way.pass
settled_pass None way = refl
settled_pass (Some fate) way = refl

-- what was made ready happens, and the passes stay
pub settled_passes : (ways mid now : List Way) → length mid ≡ length ways → length now ≡ length mid
    → ((k : ℕ) (d : Way) → k < length ways → get_or mid k d ≡ ready_with (get_or mid k d).ready (get_or ways k d))
    → ((k : ℕ) (d : Way) → k < length mid → get_or now k d ≡ settled (get_or mid k d))
    → map (λ (l : Line). l.pass) (map line_of now) ≡ map (λ (l : Line). l.pass) (map line_of ways)
settled_passes ways mid now n m same each = passes_same ways now (m ∙ n)
    (λ k d lt. let w = get_or mid k d in
    ap (λ (y : Way). y.pass) (each k d (subst (λ (j : ℕ). k < j) (sym n) lt)) ∙ settled_pass w.ready w ∙ ap (λ (y : Way). y.pass)
    (same k d lt))

-- something was made ready, and callers see no difference
pub lines_same : (ways now : List Way) → length now ≡ length ways
    → ((k : ℕ) (d : Way) → k < length ways → get_or now k d ≡ ready_with (get_or now k d).ready (get_or ways k d))
    → map line_of now ≡ map line_of ways
lines_same ways now n same = map_same line_of line_of ways now n (λ k d lt. ap line_of (same k d lt))

pub lines_stopped : (ways now : List Way) → length now ≡ length ways
    → ((k : ℕ) (d : Way) → k < length ways → get_or now k d ≡ stopped (get_or ways k d)) → map line_of now ≡ map stopped_line
    (map line_of ways)
lines_stopped ways now n each = map_same line_of (λ (w : Way). stopped_line (line_of w)) ways now n (λ k d lt. ap line_of (each k d lt))
    ∙ sym (map_twice stopped_line line_of ways)

pub lines_begun : (passes : List Sending) (ways : List Way) (first : ℕ) → ways ≡ map new_way passes → carrying ways [] first Open ≡ begun
    passes first
lines_begun passes ways first is =
    let lines = ap (map line_of) is ∙ map_twice line_of new_way passes in
    λ i. record { lines = lines i; posted = []; first = first; stage = Open }

pub on_err : {A E P : Type 0} (r : Result A E) → P → OnErr r P
on_err (Ok a) p = tt
on_err (Err e) p = p
