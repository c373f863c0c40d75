-- Passes by their numbers.
use Rattle.std.specs.Prelude.{◌≡◌, ℕ, ◌-◌, ◌<◌, ◌≤◌, List, length, slice_index_or}
use Rattle.gr_turn.specs.Views.{times}
use Rattle.gr_member.specs.Seats.{Place}
use Rattle.gr_member.specs.Passes.{House, IsPassOf}

-- The pass is one of this member, of so many, and has the numbers from `low` to below `high` at each shard.
pub record HasNumbers (house : House) (passes low high : ℕ) (p : List Place) : Type 0 where
  pub its : IsPassOf house p
  pub counted : (k : ℕ) (s : Place) → k < length p → (slice_index_or p k s).view.seats ≡ passes
  pub numbers : (k n : ℕ) (s : Place) → k < length p → low ≤ n → n < high → 0 < times n (slice_index_or p k s).view.parts

-- The pass is that of the slot `at`: the passes stand in slots, the last one first.
abbrev pub IsOfSlot : House → ℕ → List Place → Type 0
IsOfSlot house at p = HasNumbers house 8 (7 - at) (8 - at) p
