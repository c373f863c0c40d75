use Rattle.std.proofs.Common.{◌≡◌, ◌++◌, length}
use Rattle.std.specs.Prelude.{flat_map}
use Rattle.gr_value.specs.ValueText.{escaped}
use Rattle.gr_value.proofs.plain.Cursor.take_escaped.Given as goal

abbrev pub invariant-escapes : goal.invariant-escapes
invariant-escapes l = flat_map escaped l.fn.front ++ l.fn.self ≡ flat_map escaped l.text.items ++ l.rest

abbrev pub decreases-escapes : goal.decreases-escapes
decreases-escapes l = length l.rest
