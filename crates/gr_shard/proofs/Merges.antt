-- What a shard keeps stays tied to its history by an image that is merged.
use Rattle.std.proofs.Common.{◌≡◌, ◌≤◌, ◌∙◌, ap, sym, refl, subst, ℕ, List, [], ◌∷◌, ◌++◌, Bool, true, false, if◌then◌else◌, ◌&&◌, ◌||◌}
use Rattle.std.proofs.Common.{Option, Some, None, is_some, option_and_then, bytes_eq, filter, map, max, not, arith}
use Rattle.std.specs.declared.cmp.Ordering.TheVariants.{Less}
use Rattle.std.specs.List.{AllByRecursion, fold}
use Rattle.std.specs.List.Sorted.{IsStrictlySortedBy}
use Rattle.std.specs.Cmp.{nat_cmp_total, IsTotalOrder, eq_by_cmp_equiv}
use Rattle.std.specs.Cmp.Lexicographic.{slice_cmp, lists_total}
use Rattle.std.specs.Ordering.{nat_cmp, is_eq}
use Rattle.std.specs.BTreeMap.{is_at}
use Rattle.std.specs.Map.{keys_of as keys_in}
use Rattle.std.proofs.lemmas.Map.{lookup-none}
use Rattle.std.proofs.lemmas.Map.Entries.{none_past_head}
use Rattle.std.proofs.lemmas.Map.Keys.{sorted_tail, IsDistinct-from_sorted}
use Rattle.std.proofs.lemmas.Map.Text.{is_eq-slice_cmp}
use Rattle.std.proofs.lemmas.Slice.Eq.{bytes_eq-Decides}
use Rattle.gr_value.specs.Shard.{shard_of}
use Rattle.gr_stamp.specs.declared.change.Change.{Change}
use Rattle.gr_stamp.specs.declared.stamp.TheConstants.{LIMIT}
use Rattle.gr_stamp.specs.Version.{beats}
use Rattle.gr_stamp.specs.Winner.{winner, wins}
use Rattle.gr_vector.specs.Ids.{Id, has_id}
use Rattle.gr_vector.specs.Order.{united}
use Rattle.gr_vector.proofs.Same.{united-append}
use Rattle.gr_history.specs.declared.identity.Identity.{Identity}
use Rattle.gr_history.specs.declared.image.Image.{Image}
use Rattle.gr_history.specs.declared.verdict.Verdict.{Verdict}
use Rattle.gr_history.specs.declared.verdict.Verdict.TheVariants.{Applied, Discarded, Repeat}
use Rattle.gr_history.specs.declared.deed.Deed.{Deed}
use Rattle.gr_history.specs.declared.deed.Deed.TheVariants.{Imaged}
use Rattle.gr_history.specs.Ids.{id_of, ids, known}
use Rattle.gr_history.specs.Clock.{clock, since, is_same_standing}
use Rattle.gr_history.specs.Lawful.{AreInOrder}
use Rattle.gr_history.specs.Recipients.{recipients}
use Rattle.gr_history.specs.Standing.{changes, has_key, is_known, lasting, standing}
use Rattle.gr_history.specs.Verdicts.{verdict_over}
use Rattle.gr_law.proofs.Lists.{known_ids}
use Rattle.gr_law.proofs.Winners.{bytes_eq-itself}
use Rattle.gr_slots.specs.declared.slot.Slot.{Slot}
use Rattle.gr_slots.specs.Slots.{Entries, slot_at, with_slot}
use Rattle.gr_cq.specs.Entries.{noted}
use Rattle.gr_slots.proofs.Found.{slot_at-with_slot}
use Rattle.gr_stable.proofs.Counting.{heard_next}
use Rattle.gr_shard.specs.Asking.{Hold}
use Rattle.gr_shard.specs.Entries.{change_of, slot_of, verdict_at}
use Rattle.gr_shard.specs.Merges.{IsImageFor, left_by, merged, row_leaves, rows_leave, with_left, with_unknown}
use Rattle.gr_shard.specs.Telling.{turned_between}
use Rattle.gr_shard.specs.View.{IsKept, Kept}
use Rattle.gr_shard.proofs.Left.{keys_of-sorted}
use Rattle.gr_shard.proofs.Kept.{verdict_wins, verdict_loses}
use Rattle.gr_shard.proofs.Made.{verdict-slot_of}
use Rattle.gr_shard.proofs.Slots.{unchanged, won_slot}
use Rattle.gr_shard.proofs.Turning.{told_in_step, turned_by_slots}

total : IsTotalOrder (slice_cmp nat_cmp)
total = lists_total nat_cmp_total

-- ---- rows of which no two have one key

abbrev AreApart : List Change → Type 0
AreApart [] = Unit {0}
AreApart (row ∷ rest) = (has_key row.key rest ≡ false) × AreApart rest

-- the row of the key
abbrev row_at : List ℕ → List Change → Option Change
row_at q [] = None
row_at q (row ∷ rest) = if bytes_eq row.key q then Some row else row_at q rest

has_row : (q : List ℕ) (rows : List Change) → has_key q rows ≡ is_some (row_at q rows)
has_row q [] = refl
has_row q (row ∷ rest) = at_key (bytes_eq row.key q) (has_row q rest)
  where
    at_key : (b : Bool) → has_key q rest ≡ is_some (row_at q rest) → (b || has_key q rest) ≡ is_some (if b then Some row else row_at q
        rest)
    at_key true next = refl
    at_key false next = next

not_before : (key other : List ℕ) → slice_cmp nat_cmp key other ≡ Less → bytes_eq other key ≡ false
not_before key other less = at_test (bytes_eq other key) refl
  where
    at_test : (b : Bool) → bytes_eq other key ≡ b → b ≡ false
    at_test true is =
        let same : other ≡ key = (bytes_eq-Decides other key).0 is in
        let itself : slice_cmp nat_cmp key key ≡ Less = subst (λ k. slice_cmp nat_cmp key k ≡ Less) same less in
        absurd (let e : false ≡ true = sym (ap is_eq itself) ∙ is_eq-slice_cmp key key ∙ bytes_eq-itself key in cc)
    at_test false is = refl

sorted_apart : (rows : List Change) → IsStrictlySortedBy (slice_cmp nat_cmp) (map (λ row. row.key) rows) → AreApart rows
unfolding IsStrictlySortedBy
sorted_apart [] sorted = tt
sorted_apart (row ∷ rest) sorted = (none rest sorted.0, sorted_apart rest sorted.1)
  where
    none : (rows : List Change) → AllByRecursion (λ key. slice_cmp nat_cmp row.key key ≡ Less) (map (λ row. row.key) rows)
        → has_key row.key rows ≡ false
    none [] all = refl
    none (other ∷ rows) all = rw (not_before row.key other.key all.0) (none rows all.1)

rows_apart : (rows : List Change) → AreInOrder rows → AreApart rows
rows_apart rows ordered = sorted_apart rows (subst (IsStrictlySortedBy (slice_cmp nat_cmp)) (sym ordered) (keys_of-sorted rows))

-- ---- what the rows leave

abbrev first_of : Option Slot → Option Slot → Option Slot
first_of None second = second
first_of (Some slot) second = Some slot

slot_at-with_left : (q key : List ℕ) (left : Option Slot) (slots : Entries)
    → slot_at q (with_left key left slots) ≡ (if bytes_eq key q then first_of left (slot_at q slots) else slot_at q slots)
slot_at-with_left q key None slots = either (bytes_eq key q)
  where
    either : (b : Bool) → slot_at q slots ≡ (if b then slot_at q slots else slot_at q slots)
    either true = refl
    either false = refl
slot_at-with_left q key (Some slot) slots = slot_at-with_slot q key slot slots

module _ (known_ : List Id) (clock_ : ℕ) (slots : Entries) where
  abbrev row_left : Change → Option Slot
  row_left row = row_leaves known_ clock_ row (slot_at row.key slots)

  abbrev rows_from : Entries → List Change → Entries
  rows_from left rows = fold (λ left row. with_left row.key (row_left row) left) left rows

  no_row : (q : List ℕ) (rows : List Change) (left : Entries) → has_key q rows ≡ false → slot_at q (rows_from left rows) ≡ slot_at q left
  no_row q [] left none = refl
  no_row q (row ∷ rest) left none = at_key (bytes_eq row.key q) refl none (no_row q rest (with_left row.key (row_left row) left))
    where
      at_key : (b : Bool) → bytes_eq row.key q ≡ b → (b || has_key q rest) ≡ false
          → (has_key q rest ≡ false → slot_at q (rows_from (with_left row.key (row_left row) left) rest)
          ≡ slot_at q (with_left row.key (row_left row) left))
          → slot_at q (rows_from left (row ∷ rest)) ≡ slot_at q left
      at_key true is none later = absurd cc
      at_key false is none later =
          later none ∙ slot_at-with_left q row.key (row_left row) left
          ∙ ap (λ b. if b then first_of (row_left row) (slot_at q left) else slot_at q left) is

  one_row : (q : List ℕ) (rows : List Change) (left : Entries) → AreApart rows → slot_at q left ≡ None
      → slot_at q (rows_from left rows) ≡ option_and_then (λ row. row_leaves known_ clock_ row (slot_at q slots)) (row_at q rows)
  one_row q [] left apart none = none
  one_row q (row ∷ rest) left apart none =
      at_key (bytes_eq row.key q) refl (one_row q rest (with_left row.key (row_left row) left) apart.1)
    where
      here : (b : Bool) → bytes_eq row.key q ≡ b → slot_at q (with_left row.key (row_left row) left) ≡ (if b then row_left row else None)
      here b is =
          slot_at-with_left q row.key (row_left row) left
          ∙ ap (λ found. if bytes_eq row.key q then first_of (row_left row) found else found) none
          ∙ ap (λ b. if b then first_of (row_left row) None else None) is
          ∙ ap (λ s. if b then s else None) (alone (row_left row))
        where
          alone : (s : Option Slot) → first_of s None ≡ s
          alone None = refl
          alone (Some slot) = refl

      at_key : (b : Bool) → bytes_eq row.key q ≡ b
          → (slot_at q (with_left row.key (row_left row) left) ≡ None
          → slot_at q (rows_from (with_left row.key (row_left row) left) rest)
          ≡ option_and_then (λ row. row_leaves known_ clock_ row (slot_at q slots)) (row_at q rest))
          → slot_at q (rows_from left (row ∷ rest))
          ≡ option_and_then (λ row. row_leaves known_ clock_ row (slot_at q slots)) (if b then Some row else row_at q rest)
      at_key true is later =
          let same : row.key ≡ q = (bytes_eq-Decides row.key q).0 is in
          no_row q rest (with_left row.key (row_left row) left) (subst (λ k. has_key k rest ≡ false) same apart.0)
          ∙ here true is ∙ ap (λ k. row_leaves known_ clock_ row (slot_at k slots)) same
      at_key false is later = later (here false is)

-- ---- what stood before

-- a slot, where the image doesn't know it
abbrev unless_known : List Id → Option Slot → Option Slot
unless_known ids None = None
unless_known ids (Some slot) = if has_id (record { member = slot.stamp.member; rv = slot.stamp.rv }) ids then None else Some slot

-- keys that are told apart one way are so the other way
other_key : (q key : List ℕ) → is_at (slice_cmp nat_cmp q) key ≡ false → bytes_eq key q ≡ false
other_key q key is = at_test (bytes_eq key q) refl
  where
    at_test : (b : Bool) → bytes_eq key q ≡ b → b ≡ false
    at_test true e = sym ((bytes_eq-Decides q key).1 (sym ((bytes_eq-Decides key q).0 e))) ∙ sym (is_eq-slice_cmp q key) ∙ is
    at_test false e = refl

module _ (ids_ : List Id) where
  abbrev olds_from : Entries → Entries → Entries
  olds_from left olds = fold (with_unknown ids_) left olds

  -- what is there stays
  there_stays : (q : List ℕ) (slot : Slot) (olds left : Entries) → slot_at q left ≡ Some slot → slot_at q (olds_from left olds) ≡ Some
      slot
  there_stays q slot [] left there = there
  there_stays q slot (old ∷ olds) left there = there_stays q slot olds (with_unknown ids_ left old) (at_key (bytes_eq old.0 q) refl)
    where
      at_key : (b : Bool) → bytes_eq old.0 q ≡ b → slot_at q (with_unknown ids_ left old) ≡ Some slot
      at_key true is =
          let found : is_some (slot_at old.0 left) ≡ true =
          ap (λ k. is_some (slot_at k left)) ((bytes_eq-Decides old.0 q).0 is) ∙ ap is_some there in
          rw found there
      at_key false is = at_test (is_some (slot_at old.0 left) || has_id (id_of (change_of old.0 old.1)) ids_)
        where
          at_test : (b : Bool) → slot_at q (if b then left else with_slot old.0 old.1 left) ≡ Some slot
          at_test true = there
          at_test false = slot_at-with_slot q old.0 old.1 left ∙ ap (λ b. if b then Some old.1 else slot_at q left) is ∙ there

  -- nothing is set at other keys
  other_stays : (q : List ℕ) (olds left : Entries) → slot_at q olds ≡ None → slot_at q (olds_from left olds) ≡ slot_at q left
  other_stays q [] left none = refl
  other_stays q (old ∷ olds) left none =
      at_key (is_at (slice_cmp nat_cmp q) old.0) refl none (other_stays q olds (with_unknown ids_ left old))
    where
      at_key : (b : Bool) → is_at (slice_cmp nat_cmp q) old.0 ≡ b → (if b then Some old.1 else slot_at q olds) ≡ None
          → (slot_at q olds ≡ None → slot_at q (olds_from (with_unknown ids_ left old) olds) ≡ slot_at q (with_unknown ids_ left old))
          → slot_at q (olds_from left (old ∷ olds)) ≡ slot_at q left
      at_key true is none later = absurd cc
      at_key false is none later = later none ∙ at_test (is_some (slot_at old.0 left) || has_id (id_of (change_of old.0 old.1)) ids_)
        where
          apart : bytes_eq old.0 q ≡ false
          apart = other_key q old.0 is

          at_test : (b : Bool) → slot_at q (if b then left else with_slot old.0 old.1 left) ≡ slot_at q left
          at_test true = refl
          at_test false = slot_at-with_slot q old.0 old.1 left ∙ ap (λ b. if b then Some old.1 else slot_at q left) apart

  -- at a key that has none, what stood is set where it isn't known
  fresh : (q : List ℕ) (olds left : Entries) → IsStrictlySortedBy (slice_cmp nat_cmp) (keys_in olds) → slot_at q left ≡ None
      → slot_at q (olds_from left olds) ≡ unless_known ids_ (slot_at q olds)
  fresh q [] left sorted none = none
  fresh q (old ∷ olds) left sorted none =
      at_key (is_at (slice_cmp nat_cmp q) old.0) refl
      (fresh q olds (with_unknown ids_ left old) (sorted_tail (slice_cmp nat_cmp) _ _ sorted))
    where
      at_key : (b : Bool) → is_at (slice_cmp nat_cmp q) old.0 ≡ b
          → (slot_at q (with_unknown ids_ left old) ≡ None
          → slot_at q (olds_from (with_unknown ids_ left old) olds) ≡ unless_known ids_ (slot_at q olds))
          → slot_at q (olds_from left (old ∷ olds)) ≡ unless_known ids_ (if b then Some old.1 else slot_at q olds)
      at_key true is later =
          let same : bytes_eq q old.0 ≡ true = sym (is_eq-slice_cmp q old.0) ∙ is in
          let key_is : q ≡ old.0 = (bytes_eq-Decides q old.0).0 same in
          let no_more : slot_at q olds ≡ None =
          lookup-none (is_at (slice_cmp nat_cmp q)) olds
          (none_past_head (eq_by_cmp_equiv total) q old olds (IsDistinct-from_sorted (slice_cmp nat_cmp) _ sorted) is) in
          other_stays q olds (with_unknown ids_ left old) no_more
          ∙ at_known (has_id (id_of (change_of old.0 old.1)) ids_) refl (subst (λ k. slot_at k left ≡ None) key_is none)
          ((bytes_eq-Decides old.0 q).1 (sym key_is))
        where
          at_known : (k : Bool) → has_id (id_of (change_of old.0 old.1)) ids_ ≡ k → slot_at old.0 left ≡ None → bytes_eq old.0 q ≡ true
              → slot_at q (with_unknown ids_ left old) ≡ (if k then None else Some old.1)
          at_known true known_is nothing same = rw (nothing, known_is) none
          at_known false known_is nothing same =
              rw (nothing, known_is) (slot_at-with_slot q old.0 old.1 left ∙ ap (λ b. if b then Some old.1 else slot_at q left) same)
      at_key false is later = later (at_test (is_some (slot_at old.0 left) || has_id (id_of (change_of old.0 old.1)) ids_))
        where
          apart : bytes_eq old.0 q ≡ false
          apart = other_key q old.0 is

          at_test : (b : Bool) → slot_at q (if b then left else with_slot old.0 old.1 left) ≡ None
          at_test true = none
          at_test false = slot_at-with_slot q old.0 old.1 left ∙ ap (λ b. if b then Some old.1 else slot_at q left) apart ∙ none

  olds_left : (q : List ℕ) (olds left : Entries) → IsStrictlySortedBy (slice_cmp nat_cmp) (keys_in olds)
      → slot_at q (olds_from left olds) ≡ first_of (slot_at q left) (unless_known ids_ (slot_at q olds))
  olds_left q olds left sorted = at_left (slot_at q left) refl
    where
      at_left : (o : Option Slot) → slot_at q left ≡ o → slot_at q (olds_from left olds) ≡ first_of o (unless_known ids_ (slot_at q olds))
      at_left None is = fresh q olds left sorted is
      at_left (Some slot) is = there_stays q slot olds left is

-- what is found at a key after a merge
slot_at-merged : (q : List ℕ) (known_ : List Id) (clock_ : ℕ) (image : Image) (slots : Entries) → AreInOrder image.rows
    → IsStrictlySortedBy (slice_cmp nat_cmp) (keys_in slots)
    → slot_at q (merged known_ clock_ image slots)
    ≡ first_of (option_and_then (λ row. row_leaves known_ clock_ row (slot_at q slots)) (row_at q image.rows))
    (unless_known image.vector.ids (slot_at q slots))
slot_at-merged q known_ clock_ image slots in_order sorted =
    olds_left image.vector.ids q slots (rows_leave known_ clock_ slots image.rows) sorted
    ∙ ap (λ s. first_of s (unless_known image.vector.ids (slot_at q slots)))
    (one_row known_ clock_ slots q image.rows [] (rows_apart image.rows in_order) refl)

-- ---- what stands after an image is merged

winner-if : (q : List ℕ) (b : Bool) (xs : List Change) → winner q (if b then [] else xs) ≡ (if b then None else winner q xs)
winner-if q true xs = refl
winner-if q false xs = refl

winner-no_row : (q : List ℕ) (test : Change → Bool) (rows old : List Change) → has_key q rows ≡ false
    → winner q (filter test rows ++ old) ≡ winner q old
winner-no_row q test [] old none = refl
winner-no_row q test (row ∷ rest) old none = at_key (bytes_eq row.key q) refl none (winner-no_row q test rest old)
  where
    at_key : (b : Bool) → bytes_eq row.key q ≡ b → (b || has_key q rest) ≡ false
        → (has_key q rest ≡ false → winner q (filter test rest ++ old) ≡ winner q old)
        → winner q (filter test (row ∷ rest) ++ old) ≡ winner q old
    at_key true is none later = absurd cc
    at_key false is none later = at_test (test row) (later none)
      where
        at_test : (t : Bool) → winner q (filter test rest ++ old) ≡ winner q old
            → winner q ((if t then row ∷ filter test rest else filter test rest) ++ old) ≡ winner q old
        at_test true next = rw is next
        at_test false next = next

winner-one_row : (q : List ℕ) (test : Change → Bool) (row : Change) (rows old : List Change) → AreApart rows → row_at q rows ≡ Some row
    → winner q (filter test rows ++ old) ≡ (if test row && wins row (winner q old) then Some row else winner q old)
winner-one_row q test row [] old apart is = absurd cc
winner-one_row q test row (first ∷ rest) old apart is =
    at_key (bytes_eq first.key q) refl is (winner-one_row q test row rest old apart.1)
  where
    at_key : (b : Bool) → bytes_eq first.key q ≡ b → (if b then Some first else row_at q rest) ≡ Some row
        → (row_at q rest ≡ Some row
        → winner q (filter test rest ++ old) ≡ (if test row && wins row (winner q old) then Some row else winner q old))
        → winner q (filter test (first ∷ rest) ++ old) ≡ (if test row && wins row (winner q old) then Some row else winner q old)
    at_key true same found later =
        let none : has_key q rest ≡ false = subst (λ k. has_key k rest ≡ false) ((bytes_eq-Decides first.key q).0 same) apart.0 in
        let row_is : first ≡ row = cc in
        subst (λ r. winner q (filter test (first ∷ rest) ++ old) ≡ (if test r && wins r (winner q old) then Some r else winner q old))
        row_is
        (at_test (test first) (winner-no_row q test rest old none))
      where
        at_test : (t : Bool) → winner q (filter test rest ++ old) ≡ winner q old
            → winner q ((if t then first ∷ filter test rest else filter test rest) ++ old)
            ≡ (if t && wins first (winner q old) then Some first else winner q old)
        at_test true next = rw (same, next) refl
        at_test false next = next
    at_key false same found later = at_test (test first) (later found)
      where
        at_test : (t : Bool)
            → winner q (filter test rest ++ old) ≡ (if test row && wins row (winner q old) then Some row else winner q old)
            → winner q ((if t then first ∷ filter test rest else filter test rest) ++ old)
            ≡ (if test row && wins row (winner q old) then Some row else winner q old)
        at_test true next = rw same next
        at_test false next = next

-- a slot that is known or isn't, by what stands
unless_standing : (ids_ : List Id) (stands : Option Change) (from : ℕ)
    → unless_known ids_ (slot_of stands from) ≡ (if is_known ids_ stands then None else slot_of stands from)
unless_standing ids_ None from = refl
unless_standing ids_ (Some change) from = refl

still_there : (ids_ : List Id) (slot : Option Slot) → first_of slot (unless_known ids_ slot) ≡ slot
still_there ids_ None = refl
still_there ids_ (Some slot) = refl

verdict_new : (known_ : Bool) (stands : Option Change) (row : Change) → verdict_over known_ stands row ≡ Applied → known_ ≡ false
verdict_new true stands row is = absurd cc
verdict_new false stands row is = refl

module _ (q : List ℕ) (image : Image) (past : List Deed) where
  abbrev is_new : Change → Bool
  is_new row = not (has_id (id_of row) (ids past))

  standing_without : has_key q image.rows ≡ false
      → standing q (Imaged image ∷ past) ≡ (if is_known image.vector.ids (standing q past) then None else standing q past)
  standing_without none =
      winner-if q (not (has_key q image.rows) && is_known image.vector.ids (standing q past)) (filter is_new image.rows ++ lasting q past)
      ∙ ap (λ b. if not b && is_known image.vector.ids (standing q past) then None
      else winner q (filter is_new image.rows ++ lasting q past)) none
      ∙ ap (λ o. if is_known image.vector.ids (standing q past) then None else o)
      (winner-no_row q is_new image.rows (lasting q past) none)

  standing_with : (row : Change) → AreApart image.rows → row_at q image.rows ≡ Some row
      → standing q (Imaged image ∷ past) ≡ (if is_new row && wins row (standing q past) then Some row else standing q past)
  standing_with row apart found =
      winner-if q (not (has_key q image.rows) && is_known image.vector.ids (standing q past)) (filter is_new image.rows ++ lasting q past)
      ∙ ap (λ b. if not b && is_known image.vector.ids (standing q past) then None
      else winner q (filter is_new image.rows ++ lasting q past)) (has_row q image.rows ∙ ap is_some found)
      ∙ winner-one_row q is_new row image.rows (lasting q past) apart found

  abbrev here : Option Slot
  here = slot_of (standing q past) (since q past)

  abbrev there : Option Slot
  there = slot_of (standing q (Imaged image ∷ past)) (since q (Imaged image ∷ past))

  no_row_stands : has_key q image.rows ≡ false → unless_known image.vector.ids here ≡ there
  no_row_stands none =
      unless_standing image.vector.ids (standing q past) (since q past)
      ∙ at_known (is_known image.vector.ids (standing q past)) refl
    where
      at_known : (k : Bool) → is_known image.vector.ids (standing q past) ≡ k → (if k then None else here) ≡ there
      at_known true is =
          sym (ap (λ s. slot_of s (since q (Imaged image ∷ past)))
          (standing_without none ∙ ap (λ b. if b then None else standing q past) is))
      at_known false is =
          sym (unchanged q (Imaged image) past (standing_without none ∙ ap (λ b. if b then None else standing q past) is))

  row_stands : (row : Change) → AreApart image.rows → row_at q image.rows ≡ Some row → (told : Verdict)
      → verdict_over (has_id (id_of row) (ids past)) (standing q past) row ≡ told
      → first_of (left_by told row (clock past) here) (unless_known image.vector.ids here) ≡ there
  row_stands row apart found Applied is =
      let win : wins row (standing q past) ≡ true = verdict_wins (has_id (id_of row) (ids past)) (standing q past) row is in
      let new : has_id (id_of row) (ids past) ≡ false = verdict_new (has_id (id_of row) (ids past)) (standing q past) row is in
      let now : standing q (Imaged image ∷ past) ≡ Some row =
      standing_with row apart found
      ∙ ap (λ b. if not b && wins row (standing q past) then Some row else standing q past) new
      ∙ ap (λ b. if b then Some row else standing q past) win in
      sym (ap (λ s. slot_of s (if is_same_standing s (standing q past) then since q past else clock past)) now
      ∙ won_slot row (standing q past) (clock past) (since q past) win)
  row_stands row apart found Discarded is =
      let lose : wins row (standing q past) ≡ false = verdict_loses (has_id (id_of row) (ids past)) (standing q past) row is in
      still_there image.vector.ids here
      ∙ sym (unchanged q (Imaged image) past
      (standing_with row apart found ∙ ap (λ b. if is_new row && b then Some row else standing q past) lose
      ∙ neither (is_new row)))
    where
      neither : (b : Bool) → (if b && false then Some row else standing q past) ≡ standing q past
      neither true = refl
      neither false = refl
  row_stands row apart found Repeat is =
      still_there image.vector.ids here
      ∙ sym (unchanged q (Imaged image) past
      (standing_with row apart found ∙ at_known (has_id (id_of row) (ids past)) is))
    where
      at_known : (k : Bool) → verdict_over k (standing q past) row ≡ Repeat
          → (if not k && wins row (standing q past) then Some row else standing q past) ≡ standing q past
      at_known true e = refl
      at_known false e = absurd (repeats_not (standing q past) e)
        where
          repeats_not : (stands : Option Change) → verdict_over false stands row ≡ Repeat → ⊥
          repeats_not None e = cc
          repeats_not (Some before) e = at_test (beats row.stamp before.stamp) e
            where
              at_test : (b : Bool) → (if b then Applied else Discarded) ≡ Repeat → ⊥
              at_test true f = cc
              at_test false f = cc

pub stands_merged : (image : Image) (past : List Deed) (slots : Entries) (known_ : List Id) (clock_ : ℕ) → AreInOrder image.rows
    → IsStrictlySortedBy (slice_cmp nat_cmp) (keys_in slots) → known_ ≡ known past → clock_ ≡ clock past → Hold slots past
    → Hold (merged known_ clock_ image slots) (Imaged image ∷ past)
stands_merged image past slots known_ clock_ in_order sorted known_is clock_is stands q =
    slot_at-merged q known_ clock_ image slots in_order sorted
    ∙ ap (λ s. first_of (option_and_then (λ row. row_leaves known_ clock_ row s) (row_at q image.rows)) (unless_known image.vector.ids s))
    (stands q)
    ∙ ap (λ n. first_of (option_and_then (λ row. row_leaves known_ n row (here q image past)) (row_at q image.rows))
    (unless_known image.vector.ids (here q image past))) clock_is
    ∙ at_row (row_at q image.rows) refl
  where
    at_row : (o : Option Change) → row_at q image.rows ≡ o
        → first_of (option_and_then (λ row. row_leaves known_ (clock past) row (here q image past)) o)
        (unless_known image.vector.ids (here q image past))
        ≡ there q image past
    at_row None is = no_row_stands q image past (has_row q image.rows ∙ ap is_some is)
    at_row (Some row) is =
        ap (λ told. first_of (left_by told row (clock past) (here q image past)) (unless_known image.vector.ids (here q image past)))
        (ap (λ b. verdict_at b (here q image past) row.stamp) (known_ids known_ past known_is (id_of row))
        ∙ verdict-slot_of (has_id (id_of row) (ids past)) (standing q past) (since q past) row)
        ∙ row_stands q image past row (rows_apart image.rows in_order) is
        (verdict_over (has_id (id_of row) (ids past)) (standing q past) row) refl

pub of_shard_rows : (id : Identity) (test : Change → Bool) (rows old : List Change)
    → AllByRecursion (λ row. shard_of row.key id.shards ≡ id.shard) rows → AllByRecursion (λ row. shard_of row.key id.shards ≡ id.shard)
    old
    → AllByRecursion (λ row. shard_of row.key id.shards ≡ id.shard) (filter test rows ++ old)
of_shard_rows id test [] old rows_here all = all
of_shard_rows id test (row ∷ rest) old rows_here all = at_test (test row) (of_shard_rows id test rest old rows_here.1 all)
  where
    at_test : (b : Bool) → AllByRecursion (λ row. shard_of row.key id.shards ≡ id.shard) (filter test rest ++ old)
        → AllByRecursion (λ row. shard_of row.key id.shards ≡ id.shard) ((if b then row ∷ filter test rest else filter test rest) ++ old)
    at_test true next = (rows_here.0, next)
    at_test false next = next

module _ (id : Identity) (opening : ℕ) (now : Kept) (past : List Deed) where
  -- Kept before an image is merged, all is kept after it.
  pub kept_merged : (image : Image) → IsKept id opening now past → IsStrictlySortedBy (slice_cmp nat_cmp) (keys_in now.slots)
      → IsImageFor id image
      → IsKept id opening
      (record now {
        slots = merged now.vector now.clock image now.slots;
        vector = united now.vector image.vector.ids;
        floor = max image.floor now.floor;
        joined = true;
        queries = noted (turned_between now.slots (merged now.vector now.clock image now.slots)) now.queries;
      })
      (Imaged image ∷ past)
  unfolding recipients
  kept_merged image kept ordered fits = record {
    place = kept.place;
    lawful = (fits.in_order, kept.lawful);
    of_shard = of_shard_rows id (λ row. not (has_id (id_of row) (ids past))) image.rows (changes past) fits.of_shard kept.of_shard;
    named = (tt, kept.named);
    stands = stands;
    noted = ap (λ ids_. united ids_ image.vector.ids) kept.noted ∙ sym (united-append [] image.vector.ids (ids past));
    floored = ap (max image.floor) kept.floored;
    low = most image.floor now.floor fits.low kept.low;
    clocked = kept.clocked;
    imaged = refl;
    aimed = kept.aimed;
    told = kept.told ∙ sym (heard_next (Imaged image) past);
    in_step = told_in_step (Imaged image) past (turned_between now.slots (merged now.vector now.clock image now.slots)) now.queries
        (λ client name. refl)
        (turned_by_slots (Imaged image) past now.slots (merged now.vector now.clock image now.slots) kept.stands stands) kept.in_step;
  }
    where
      stands : Hold (merged now.vector now.clock image now.slots) (Imaged image ∷ past)
      stands = stands_merged image past now.slots now.vector now.clock fits.in_order ordered kept.noted kept.clocked kept.stands

      most : (a b : ℕ) → a ≤ LIMIT → b ≤ LIMIT → max a b ≤ LIMIT
      most a b some more = omega (arith, some, more)
