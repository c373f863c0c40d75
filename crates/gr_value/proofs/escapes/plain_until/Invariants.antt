use Rattle.std.proofs.Common.{◌≡◌, take}
use Rattle.std.specs.Prelude.{flat_map}
use Rattle.gr_value.specs.ValueText.{escaped}
use Rattle.gr_value.proofs.escapes.plain_until.Given as goal

abbrev pub invariant-loop-place : goal.invariant-loop-place
invariant-loop-place l = flat_map escaped (take l.place l.bytes) ≡ take l.place l.bytes
