-- Cells without those at which nothing stands.
use Rattle.std.proofs.Common.{◌≡◌, ◌≢◌, ◌∙◌, ap, sym, refl, ℕ, zero, suc, List, [], ◌∷◌, Bool, true, false, Option, Some, None}
use Rattle.std.proofs.Common.{if◌then◌else◌, filter, length, option_map, ◌⊎◌, inl, inr, ◌≤◌, arith}
use Rattle.std.specs.Ordering.{nat_cmp}
use Rattle.std.specs.Cmp.Lexicographic.{slice_cmp}
use Rattle.std.specs.List.{slice_get}
use Rattle.std.specs.Option.{option_and_then}
use Rattle.std.specs.BTreeMap.{BTreeMap, get, is_at}
use Rattle.std.specs.Map.{lookup}
use Rattle.gr_slots.specs.declared.cell.Cell.{Cell}
use Rattle.gr_slots.specs.Slots.{with_slot}
use Rattle.gr_slots.specs.Cells.{key_in, near_in, near_key, rows_in, AreApart, AreTied}
use Rattle.gr_slots.proofs.Tied.{apart_tail}

abbrev live_ones : List Cell → List Cell
live_ones cells = filter (λ cell. cell.live) cells

pub packed_rows : (cells : List Cell) → rows_in (live_ones cells) ≡ rows_in cells
packed_rows [] = refl
packed_rows (cell ∷ cells) = at_live cell.live refl (packed_rows cells)
  where
    at_live : (b : Bool) → cell.live ≡ b → rows_in (live_ones cells) ≡ rows_in cells
        → rows_in (if b then cell ∷ live_ones cells else live_ones cells)
        ≡ (if b then with_slot cell.key cell.slot (rows_in cells) else rows_in cells)
    at_live true e rest =
        ap (λ b. if b then with_slot cell.key cell.slot (rows_in (live_ones cells)) else rows_in (live_ones cells)) e
        ∙ ap (with_slot cell.key cell.slot) rest
    at_live false e rest = rest

-- a key that is left was there
was_there : (key : List ℕ) (cells : List Cell) (place : ℕ) → key_in (live_ones cells) place ≡ Some key
    → (before : ℕ) × (key_in cells before ≡ Some key)
was_there key [] place is = absurd cc
was_there key (cell ∷ cells) place is = at_live cell.live place is (was_there key cells)
  where
    at_live : (b : Bool) (place : ℕ) → key_in (if b then cell ∷ live_ones cells else live_ones cells) place ≡ Some key
        → ((place : ℕ) → key_in (live_ones cells) place ≡ Some key → (before : ℕ) × (key_in cells before ≡ Some key))
        → (before : ℕ) × (key_in (cell ∷ cells) before ≡ Some key)
    at_live true zero is rest = (0, is)
    at_live true (suc place) is rest = let one = rest place is in (suc one.0, one.1)
    at_live false place is rest = let one = rest place is in (suc one.0, one.1)

packed_apart : (cells : List Cell) → AreApart cells → AreApart (live_ones cells)
packed_apart [] apart = λ key one two e f. absurd cc
packed_apart (cell ∷ cells) apart = at_live cell.live (packed_apart cells (apart_tail cell cells apart))
  where
    never : (key : List ℕ) (place : ℕ) → Some cell.key ≡ Some key → key_in (live_ones cells) place ≡ Some key → ⊥
    never key place e f =
        let one = was_there key cells place f in
        let same : 0 ≡ suc one.0 = apart key 0 (suc one.0) e one.1 in omega (arith, same)

    behind : AreApart (live_ones cells) → AreApart (cell ∷ live_ones cells)
    behind rest key zero zero e f = refl
    behind rest key zero (suc two) e f = absurd (never key two e f)
    behind rest key (suc one) zero e f = absurd (never key one f e)
    behind rest key (suc one) (suc two) e f = ap suc (rest key one two e f)

    at_live : (b : Bool) → AreApart (live_ones cells) → AreApart (if b then cell ∷ live_ones cells else live_ones cells)
    at_live true rest = behind rest
    at_live false rest = rest

-- ---- where all are in chains

abbrev AreNear : List Cell → Type 0
AreNear cells = (place : ℕ) → near_in cells place ≡ key_in cells place

all_near : (far : BTreeMap (List ℕ) ℕ) (cells : List Cell) → AreTied far cells
    → ((key : List ℕ) → get (slice_cmp nat_cmp) far key ≡ None) → AreNear cells
all_near far cells tied none place = at_cell (slice_get cells place) refl
  where
    at_place : (cell : Cell) → slice_get cells place ≡ Some cell
        → (near_in cells place ≡ Some cell.key) ⊎ (get (slice_cmp nat_cmp) far cell.key ≡ Some place) → near_in cells place ≡ Some cell.key
    at_place cell e (inl near) = near
    at_place cell e (inr got) = absurd (let both : None ≡ Some place = sym (none cell.key) ∙ got in cc)

    at_cell : (o : Option Cell) → slice_get cells place ≡ o → near_in cells place ≡ key_in cells place
    at_cell None e = ap (option_and_then near_key) e ∙ sym (ap (option_map (λ (cell : Cell). cell.key)) e)
    at_cell (Some cell) e =
        let here : key_in cells place ≡ Some cell.key = ap (option_map (λ (cell : Cell). cell.key)) e in
        at_place cell e (tied.has_place cell.key place here) ∙ sym here

packed_near : (cells : List Cell) → AreNear cells → AreNear (live_ones cells)
packed_near [] near = near
packed_near (cell ∷ cells) near = at_live cell.live (packed_near cells (λ place. near (suc place)))
  where
    behind : AreNear (live_ones cells) → AreNear (cell ∷ live_ones cells)
    behind rest zero = near 0
    behind rest (suc place) = rest place

    at_live : (b : Bool) → AreNear (live_ones cells) → AreNear (if b then cell ∷ live_ones cells else live_ones cells)
    at_live true rest = behind rest
    at_live false rest = rest

pub packed_tied : (far : BTreeMap (List ℕ) ℕ) (cells : List Cell) → AreTied far cells
    → ((key : List ℕ) → get (slice_cmp nat_cmp) far key ≡ None) → AreTied far (live_ones cells)
packed_tied far cells tied none = record {
  ordered = tied.ordered;
  apart = packed_apart cells tied.apart;
  has_key = λ key place e. absurd (let both : None ≡ Some place = sym (none key) ∙ e in cc);
  has_place = λ key place e. inl (packed_near cells (all_near far cells tied none) place ∙ e);
}

-- ---- how many they are

pub fewer : (cells : List Cell) → length (live_ones cells) ≤ length cells
fewer [] = omega arith
fewer (cell ∷ cells) = at_live cell.live (fewer cells)
  where
    at_live : (b : Bool) → length (live_ones cells) ≤ length cells
        → length (if b then cell ∷ live_ones cells else live_ones cells) ≤ suc (length cells)
    at_live true rest = omega (arith, rest)
    at_live false rest = omega (arith, rest)

-- an empty map has no place
pub none_in : (far : BTreeMap (List ℕ) ℕ) → length far.entries ≡ 0 → (key : List ℕ) → get (slice_cmp nat_cmp) far key ≡ None
none_in far none key = at_entries far.entries none
  where
    at_entries : (entries : List (List ℕ × ℕ)) → length entries ≡ 0 → lookup (is_at (slice_cmp nat_cmp key)) entries ≡ None
    at_entries [] is = refl
    at_entries (entry ∷ entries) is = absurd (omega (arith, is))
