-- What is seen of a history.
use Rattle.std.specs.Prelude.{◌≡◌, ℕ, ◌≤◌, List, length, reverse}
use Rattle.gr_history.specs.declared.deed.Deed.{Deed}
use Rattle.gr_history.specs.Places.{at_place}
use Rattle.gr_history.specs.Standing.{present}
use Rattle.gr_peek.specs.declared.eye.Seen.{Seen}

-- The place is one of these deeds, and the value is what was present at the key there.
pub record IsPeekOf (key : List ℕ) (seen : Seen) (deeds : List Deed) : Type 0 where
  pub at : seen.at ≤ length deeds
  pub value : seen.value ≡ present key (at_place seen.at (reverse deeds))
