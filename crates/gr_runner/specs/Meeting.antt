-- Passes that are met at several members.
use Rattle.std.specs.Prelude.{◌≡◌, ℕ, ◌<◌, List, length, slice_index_or, slice_set}
use Rattle.gr_member.specs.Passes.{MeetsAll}
use Rattle.gr_member.specs.Seats.{Place}

-- At this place the pass was met, and the others are as they were.
pub record MeetsAt (at : ℕ) (desks : List (List Place)) (pass : List Place) (after : List (List Place)) : Type 0 where
  pub met : List Place
  pub there : at < length desks
  pub now : after ≡ slice_set desks at met
  pub meets : (p : List Place) → MeetsAll (slice_index_or desks at p) pass met

-- At each place a pass was met.
pub record MeetsEach (desks passes after : List (List Place)) : Type 0 where
  pub many : length after ≡ length desks
  pub each : (k : ℕ) (p q : List Place) → k < length desks
      → MeetsAll (slice_index_or desks k p) (slice_index_or passes k q) (slice_index_or after k p)
