-- Passes as they are made.
use Rattle.std.specs.Prelude.{◌≡◌, ℕ, ◌<◌, Bool, List, [], ◌∷◌, length, slice_index_or}
use Rattle.logbook.specs.Pages.{Book}
use Rattle.gr_history.specs.declared.deed.Deed.{Deed}
use Rattle.gr_peek.specs.Entering.{new_eye}
use Rattle.gr_turn.specs.Views.{Seated, seat_view}
use Rattle.gr_member.specs.declared.lock.ShardLock.{ShardLock}
use Rattle.gr_member.specs.declared.plan.Plan.{Plan}
use Rattle.gr_member.specs.declared.replica.Origin.{Origin}
use Rattle.gr_member.specs.Plans.{identity_of}
use Rattle.gr_member.specs.Replicas.{Watched}
use Rattle.gr_member.specs.Seats.{Place}
use Rattle.gr_member.specs.Passes.{House, IsPassOf}

-- The seat is the one with this number, of so many, and has neither seen nor made anything; nor has its eye seen anything.
pub record IsFreshSeat (passes number : ℕ) (s : Place) : Type 0 where
  pub counted : s.view.seats ≡ passes
  pub began : s.view.opening ≡ 0
  pub seen : s.view.seen ≡ []
  pub made : s.view.made ≡ []
  pub numbers : s.view.parts ≡ number ∷ []
  pub known : s.eye.known ≡ []

-- The pass is the one with this number, of so many.
pub record IsFresh (house : House) (passes number : ℕ) (p : List Place) : Type 0 where
  pub its : IsPassOf house p
  pub fresh : (k : ℕ) (s : Place) → k < length p → IsFreshSeat passes number (slice_index_or p k s)

abbrev pub AreFresh : House → ℕ → List (List Place) → Type 0
AreFresh house passes made = (number : ℕ) (p : List Place) → number < passes → IsFresh house passes number (slice_index_or made number p)

-- Each of so many passes is shown the copies, or none is.
abbrev pub AreShown : Bool → ℕ → List (List Place) → Type 0
AreShown shown passes made = (number : ℕ) (p : List Place) (k : ℕ) (s : Place) → number < passes → k < length (slice_index_or made number p)
    → (slice_index_or (slice_index_or made number p) k s).eye.shown ≡ shown

-- the origin of the shard k, with its copy
abbrev pub origin_at : Plan → ℕ → Book → Origin
origin_at plan k copy = record { id = identity_of plan k; opening = plan.floor; copy = copy }

-- the seats of the shard k, as its lock gives them, with the numbers in order
abbrev pub AreSeats : Plan → ℕ → ℕ → ShardLock → List (Seated Deed Origin) → Type 0
AreSeats plan k passes lock seats = (number : ℕ) (s : Seated Deed Origin) → number < passes
    → ((slice_index_or seats number s).lock ≡ lock.lock)
    × ((slice_index_or seats number s).view ≡ seat_view (origin_at plan k lock.name.copy) passes [] number)

-- so many eyes of the copy that have seen nothing, which are shown it or not
abbrev pub AreUnused : ℕ → Bool → Book → List Watched → Type 0
AreUnused passes shown copy watches = (k : ℕ) (w : Watched) → k < passes
    → slice_index_or watches k w ≡ record { eye = new_eye shown copy; noted = [] }
