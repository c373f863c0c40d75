-- Slots in cells, whose places are found by the keys.
use Rattle.std.specs.Prelude.{◌≡◌, ◌≢◌, ◌⊎◌, ℕ, List, [], ◌∷◌, Option, Some, None, option_map, if◌then◌else◌}
use Rattle.std.specs.Option.{option_and_then}
use Rattle.std.specs.Ordering.{nat_cmp}
use Rattle.std.specs.Cmp.Lexicographic.{slice_cmp}
use Rattle.std.specs.List.{slice_get}
use Rattle.std.specs.BTreeMap.{BTreeMap, get, IsOrdered}
use Rattle.gr_slots.specs.declared.slot.Slot.{Slot}
use Rattle.gr_slots.specs.declared.cell.Cell.{Cell}
use Rattle.gr_slots.specs.Slots.{Entries, with_slot}

-- what stands in a cell
abbrev pub standing : Cell → Option Slot
standing cell = if cell.live then Some cell.slot else None

-- the key of a cell that is in a chain
abbrev pub near_key : Cell → Option (List ℕ)
near_key cell = if cell.far then None else Some cell.key

-- the key of the cell at a place
abbrev pub key_in : List Cell → ℕ → Option (List ℕ)
key_in cells place = option_map (λ cell. cell.key) (slice_get cells place)

-- the same, if the cell is in a chain
abbrev pub near_in : List Cell → ℕ → Option (List ℕ)
near_in cells place = option_and_then near_key (slice_get cells place)

-- what stands in the cell at a place
abbrev pub slot_in : List Cell → ℕ → Option Slot
slot_in cells place = option_and_then standing (slice_get cells place)

-- the rows of the cells at which something stands, in the order of the cells
abbrev pub rows_of : List Cell → Entries
rows_of [] = []
rows_of (cell ∷ cells) = if cell.live then (cell.key, cell.slot) ∷ rows_of cells else rows_of cells

-- with what stands in one more cell
abbrev pub with_cell : Cell → Entries → Entries
with_cell cell rows = if cell.live then with_slot cell.key cell.slot rows else rows

-- the slots by their keys, in order
abbrev pub rows_in : List Cell → Entries
rows_in [] = []
rows_in (cell ∷ cells) = with_cell cell (rows_in cells)

-- the place of a key's cell, if it has one
abbrev pub IsPlaceOf : List Cell → List ℕ → Option ℕ → Type 0
IsPlaceOf cells key None = (place : ℕ) → key_in cells place ≢ Some key
IsPlaceOf cells key (Some place) = key_in cells place ≡ Some key

-- no two cells have one key
abbrev pub AreApart : List Cell → Type 0
AreApart cells = (key : List ℕ) (one two : ℕ) → key_in cells one ≡ Some key → key_in cells two ≡ Some key → one ≡ two

-- No two cells have one key, and the map has the place of each that is in no chain.
pub record AreTied (far : BTreeMap (List ℕ) ℕ) (cells : List Cell) : Type 0 where
  pub ordered : IsOrdered (slice_cmp nat_cmp) far
  pub apart : AreApart cells
  pub has_key : (key : List ℕ) (place : ℕ) → get (slice_cmp nat_cmp) far key ≡ Some place → key_in cells place ≡ Some key
  pub has_place : (key : List ℕ) (place : ℕ) → key_in cells place ≡ Some key
      → (near_in cells place ≡ Some key) ⊎ (get (slice_cmp nat_cmp) far key ≡ Some place)
