use Rattle.std.proofs.Common.{◌≤◌}
use Rattle.gr_value.proofs.plain.further_fields.Given as goal

abbrev pub invariant-loop-byte : goal.invariant-loop-byte
invariant-loop-byte l = l.count ≤ l.byte-index
