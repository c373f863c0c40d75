use Rattle.gr_value.proofs.FieldsTaken.{AreBelow}
use Rattle.gr_value.proofs.plain.names_ascend.Given as goal

abbrev pub invariant-loop-place : goal.invariant-loop-place
invariant-loop-place l = AreBelow l.place l.fields
