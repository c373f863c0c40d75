-- The rows of cells, put in the order of their keys.
use Rattle.std.proofs.Common.{◌≡◌, ◌≢◌, ◌∙◌, ap, sym, refl, subst, ℕ, zero, suc, ◌+◌, ◌++◌, get_or, take, ◌<◌, List, [], ◌∷◌, Bool, true, false}
use Rattle.std.proofs.Common.{Option, Some, None, if◌then◌else◌, map, length, arith, Bor}
use Rattle.std.specs.Prelude.{cond}
use Rattle.std.specs.Ordering.{nat_cmp, is_eq, is_lt, ordering_reverse}
use Rattle.std.specs.declared.cmp.Ordering.{Ordering}
use Rattle.std.specs.declared.cmp.Ordering.TheVariants.{Less, Equal, Greater}
use Rattle.std.specs.Cmp.{eq_by_cmp_equiv}
use Rattle.std.specs.Cmp.Lexicographic.{slice_cmp}
use Rattle.std.specs.List.{AllByRecursion, IsDistinct}
use Rattle.std.specs.List.Sorted.{IsPermutation, IsSortedBy, IsStrictlySortedBy}
use Rattle.std.specs.Map.{keys_of}
use Rattle.std.specs.Map.Iter.{deref_pair}
use Rattle.std.specs.BTreeMap.{is_at}
use Rattle.std.proofs.lemmas.List.Sorted.{IsPermutation-map}
use Rattle.std.proofs.lemmas.Map.Lookups.{exact_bytes}
use Rattle.gr_value.proofs.Moved.{moved_distinct, moved_found}
use Rattle.gr_slots.specs.declared.slot.Slot.{Slot}
use Rattle.gr_slots.specs.declared.cell.Cell.{Cell}
use Rattle.gr_slots.specs.Slots.{Entries, slot_at, with_slot}
use Rattle.gr_slots.specs.Cells.{key_in, rows_in, rows_of, AreApart}
use Rattle.gr_slots.proofs.Found.{at-with_slot}
use Rattle.gr_slots.proofs.Ordered.{one_order}
use Rattle.gr_slots.proofs.Tied.{apart_tail, other_key, rows_ordered}
use Rattle.gr_slots.proofs.Timed.{key_order, one_key}

abbrev is_key : List ℕ → List ℕ → Bool
is_key key = is_at (slice_cmp nat_cmp key)

-- ---- one cell after the other

rows_more : (cells : List Cell) (i : ℕ) (cell : Cell) → i < length cells → cell ≡ get_or cells i cell
    → rows_of (take (suc i) cells) ≡ rows_of (take i cells) ++ rows_of (cell ∷ [])
rows_more [] i cell less is = absurd (omega (arith, less))
rows_more (first ∷ cells) zero cell less is = ap (λ one. rows_of (one ∷ [])) (sym is)
rows_more (first ∷ cells) (suc i) cell less is = at_live first.live (rows_more cells i cell (omega (arith, less)) is)
  where
    at_live : (b : Bool) → rows_of (take (suc i) cells) ≡ rows_of (take i cells) ++ rows_of (cell ∷ [])
        → (if b then (first.key, first.slot) ∷ rows_of (take (suc i) cells) else rows_of (take (suc i) cells))
        ≡ (if b then (first.key, first.slot) ∷ rows_of (take i cells) else rows_of (take i cells)) ++ rows_of (cell ∷ [])
    at_live true rest = ap (λ rows. (first.key, first.slot) ∷ rows) rest
    at_live false rest = rest

pub row_pushed : (cells : List Cell) (i : ℕ) (cell : Cell) → i < length cells → cell ≡ get_or cells i cell
    → rows_of (take (i + 1) cells) ≡ rows_of (take i cells) ++ rows_of (cell ∷ [])
row_pushed cells i cell less is =
    let next : suc i ≡ i + 1 = omega arith in
    subst (λ n. rows_of (take n cells) ≡ rows_of (take i cells) ++ rows_of (cell ∷ [])) next (rows_more cells i cell less is)

-- ---- each key stands once

keys_apart : (key : List ℕ) (cells : List Cell) → ((place : ℕ) → key_in cells place ≢ Some key)
    → AllByRecursion (λ other. is_key key other ≡ false) (keys_of (rows_of cells))
keys_apart key [] never = tt
keys_apart key (cell ∷ cells) never = at_live cell.live (keys_apart key cells (λ place. never (suc place)))
  where
    at_live : (b : Bool) → AllByRecursion (λ other. is_key key other ≡ false) (keys_of (rows_of cells))
        → AllByRecursion (λ other. is_key key other ≡ false) (keys_of (if b then (cell.key, cell.slot) ∷ rows_of cells else rows_of cells))
    at_live true rest = (other_key key cell.key (λ same. never 0 (ap Some (sym same))), rest)
    at_live false rest = rest

rows_distinct : (cells : List Cell) → AreApart cells → IsDistinct is_key (keys_of (rows_of cells))
unfolding IsDistinct
rows_distinct [] apart = tt
rows_distinct (cell ∷ cells) apart = at_live cell.live (rows_distinct cells (apart_tail cell cells apart))
  where
    at_live : (b : Bool) → IsDistinct is_key (keys_of (rows_of cells))
        → IsDistinct is_key (keys_of (if b then (cell.key, cell.slot) ∷ rows_of cells else rows_of cells))
    at_live true rest =
        (keys_apart cell.key cells (λ place e. let same : 0 ≡ suc place = apart cell.key 0 (suc place) refl e in omega (arith, same)), rest)
    at_live false rest = rest

-- ---- what is found in any order

rows_found : (q : List ℕ) (cells : List Cell) → slot_at q (rows_of cells) ≡ slot_at q (rows_in cells)
rows_found q [] = refl
rows_found q (cell ∷ cells) = at_live cell.live (rows_found q cells)
  where
    flipped : (b : Bool) → (if b then Some cell.slot else slot_at q (rows_in cells)) ≡ cond b (Some cell.slot) (slot_at q (rows_in cells))
    flipped true = refl
    flipped false = refl

    at_live : (b : Bool) → slot_at q (rows_of cells) ≡ slot_at q (rows_in cells)
        → slot_at q (if b then (cell.key, cell.slot) ∷ rows_of cells else rows_of cells)
        ≡ slot_at q (if b then with_slot cell.key cell.slot (rows_in cells) else rows_in cells)
    at_live true rest =
        ap (λ found. if is_key q cell.key then Some cell.slot else found) rest
        ∙ ap (λ b. if b then Some cell.slot else slot_at q (rows_in cells)) ((eq_by_cmp_equiv key_order).symm q cell.key)
        ∙ flipped (is_key cell.key q)
        ∙ sym (at-with_slot q cell.key cell.slot (rows_in cells))
    at_live false rest = rest

-- ---- the rows in order

abbrev pub Lent : Type 0
Lent = Bor (List ℕ) × Bor Slot

abbrev pub is_before : Lent → Lent → Bool
is_before one two = is_lt (slice_cmp nat_cmp one.0.now two.0.now)

sorted_tail : (row : Lent) (rows : List Lent) → IsSortedBy is_before (row ∷ rows) → IsSortedBy is_before rows
sorted_tail row rows sorted k d low high =
    let next : suc k + 1 ≡ suc (k + 1) = omega arith in
    subst (λ n. is_before (get_or (row ∷ rows) n d) (get_or rows k d) ≡ false) next (sorted (suc k) d (omega arith) (omega (arith, high)))

strictly : (rows : List Lent) → IsSortedBy is_before rows → IsDistinct is_key (keys_of (map deref_pair rows))
    → IsStrictlySortedBy (slice_cmp nat_cmp) (keys_of (map deref_pair rows))
unfolding IsStrictlySortedBy IsDistinct
strictly [] sorted distinct = tt
strictly (row ∷ []) sorted distinct = (tt, tt)
strictly (row ∷ next ∷ rows) sorted distinct =
    let rest = strictly (next ∷ rows) (sorted_tail row (next ∷ rows) sorted) distinct.1 in
    ((less, further (map deref_pair rows) rest.0), rest)
  where
    less_of : (o : Ordering) → slice_cmp nat_cmp row.0.now next.0.now ≡ o → o ≡ Less
    less_of Less is = refl
    less_of Equal is = absurd (let t : is_key row.0.now next.0.now ≡ true = ap is_eq is in
        let f : is_key row.0.now next.0.now ≡ false = distinct.0.0 in cc)
    less_of Greater is = absurd (let t : is_lt (slice_cmp nat_cmp next.0.now row.0.now) ≡ true =
        ap is_lt (key_order.antisymm next.0.now row.0.now ∙ ap ordering_reverse is) in
        let f : is_lt (slice_cmp nat_cmp next.0.now row.0.now) ≡ false = sorted 0 row (omega arith) (omega arith) in cc)

    less : slice_cmp nat_cmp row.0.now next.0.now ≡ Less
    less = less_of (slice_cmp nat_cmp row.0.now next.0.now) refl

    further : (es : Entries) → AllByRecursion (λ q. slice_cmp nat_cmp next.0.now q ≡ Less) (keys_of es)
        → AllByRecursion (λ q. slice_cmp nat_cmp row.0.now q ≡ Less) (keys_of es)
    further [] all = tt
    further (e ∷ es) all = (key_order.trans row.0.now next.0.now e.0 less all.0, further es all.1)

-- The rows of the cells, in the order of their keys.
pub in_rows : (cells : List Cell) (before rows : List Lent) → AreApart cells → map deref_pair before ≡ rows_of cells
    → IsPermutation before rows → IsSortedBy is_before rows → map deref_pair rows ≡ rows_in cells
in_rows cells before rows apart is moved sorted =
    one_order (slice_cmp nat_cmp) key_order exact_bytes _ _
    (strictly rows sorted (moved_distinct is_key (eq_by_cmp_equiv key_order) one_key (rows_of cells) (map deref_pair rows) kept distinct)) (rows_ordered cells)
    (λ q. moved_found is_key (eq_by_cmp_equiv key_order) one_key (rows_of cells) (map deref_pair rows) kept distinct q ∙ rows_found q cells)
  where
    kept : IsPermutation (rows_of cells) (map deref_pair rows)
    kept = subst (λ first. IsPermutation first (map deref_pair rows)) is (IsPermutation-map deref_pair before rows moved)

    distinct : IsDistinct is_key (keys_of (rows_of cells))
    distinct = rows_distinct cells apart
