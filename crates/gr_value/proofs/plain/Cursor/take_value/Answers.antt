use Rattle.gr_value.proofs.FieldsTaken.{braces_taken, none_ascend, one_ascends}
use Rattle.gr_value.proofs.plain.Cursor.take_value.Goals as goal

pub returns-then-take-clause-text : goal.returns-then-take-clause-text
returns-then-take-clause-text c = rw c.none.ensures (braces_taken _ _ c.if-take.ensures)

pub returns-then-take-clause-ascending : goal.returns-then-take-clause-ascending
returns-then-take-clause-ascending c = rw c.none.ensures none_ascend

pub returns-in-Some-clause-ascending : goal.returns-in-Some-clause-ascending
returns-in-Some-clause-ascending c = rw c.one.ensures (one_ascends c.in-Some.field)
