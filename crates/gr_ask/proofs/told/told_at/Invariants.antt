use Rattle.std.proofs.Common.{◌≡◌, ℕ, ◌≤◌, drop, length}
use Rattle.gr_ask.specs.Told.{events_at, events_of}
use Rattle.gr_ask.proofs.told.told_at.Given as goal

-- the openings from this place on
abbrev pub invariant-loop-place : goal.invariant-loop-place
invariant-loop-place l =
    (l.place ≤ length l.openings) × ((seq : ℕ) → events_at seq l.told.entries ≡ events_of l.client seq (drop l.place l.openings))
