use Rattle.std.proofs.Common.{◌≡◌, ◌++◌, length}
use Rattle.std.specs.Prelude.{flat_map}
use Rattle.gr_value.specs.ValueText.{escaped}
use Rattle.gr_value.proofs.printing.put_escapes.Given as goal

abbrev pub invariant-escapes : goal.invariant-escapes
invariant-escapes l = l.marks.items ++ flat_map escaped l.rest ≡ flat_map escaped l.text

abbrev pub decreases-escapes : goal.decreases-escapes
decreases-escapes l = length l.rest
