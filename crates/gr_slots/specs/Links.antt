-- Cells in chains, one for each seat of their keys.
use Rattle.std.specs.Prelude.{◌≡◌, ◌≢◌, ◌<◌, ℕ, zero, suc, ◌*◌, ◌/◌, ◌^◌, ◌==◌, List, Bool, false, length}
use Rattle.std.specs.Prelude.{Option, Some, None, option_map, IfSome, if◌then◌else◌, ⊤}
use Rattle.std.specs.List.{slice_get}
use Rattle.gr_value.specs.KeyHash.{hash_of}
use Rattle.gr_slots.specs.declared.cell.Cell.{Cell}
use Rattle.gr_slots.specs.declared.seats.Seats.{Seats}
use Rattle.gr_slots.specs.declared.walk.Met.{Met}
use Rattle.gr_slots.specs.declared.walk.Met.TheVariants.{Place, End, Lost}
use Rattle.gr_slots.specs.Cells.{key_in, near_in}

-- which of so many seats a key has
unfoldable pub seat_of : ℕ → List ℕ → ℕ
seat_of size key = hash_of key * size / 2 ^ 32

-- where the chain goes on behind the cell at a place
abbrev pub next_in : List Cell → ℕ → Option ℕ
next_in cells place = option_map (λ cell. cell.next) (slice_get cells place)

-- whether a key, if there is one, has this seat
abbrev pub sits : ℕ → ℕ → Option (List ℕ) → Bool
sits size seat None = false
sits size seat (Some key) = seat_of size key == seat

-- the place, plus 1, of the last of the first so many cells whose key has a seat, or 0
abbrev pub last_at : ℕ → ℕ → List Cell → ℕ → ℕ
last_at size seat cells zero = 0
last_at size seat cells (suc place) = if sits size seat (near_in cells place) then suc place else last_at size seat cells place

-- The first so many cells are in chains: each seat has its last cell, and each cell the last one before it.
pub record AreLinked (seats : Seats) (cells : List Cell) (count : ℕ) : Type 0 where
  pub heads : (seat : ℕ) → IfSome (slice_get seats.heads.items seat) (λ at. at ≡ last_at seats.size seat cells count)
  pub nexts : (place : ℕ) (key : List ℕ) → place < count → near_in cells place ≡ Some key
      → seat_of seats.size key < length seats.heads.items
      → next_in cells place ≡ Some (last_at seats.size (seat_of seats.size key) cells place)

-- All cells are linked, but for those that are in no chain.
abbrev pub IsKept : Seats → List Cell → Type 0
IsKept seats cells = AreLinked seats cells (length cells)

-- what a walk along the chain of a key's seat tells: the key's place, or that no chain has it where all are linked, or nothing
abbrev pub Tells : Seats → List Cell → List ℕ → Met → Type 0
Tells seats cells key (Place place) = key_in cells place ≡ Some key
Tells seats cells key End = AreLinked seats cells (length cells) → (place : ℕ) → near_in cells place ≢ Some key
Tells seats cells key Lost = ⊤
