use Rattle.std.proofs.Common.{◌≢◌, ◌<◌, ℕ, Some}
use Rattle.gr_slots.specs.Cells.{key_in}
use Rattle.gr_slots.proofs.places.scan.Given as goal

abbrev pub invariant-loop-place : goal.invariant-loop-place
invariant-loop-place l = (place : ℕ) → place < l.place → key_in l.cells place ≢ Some l.key
