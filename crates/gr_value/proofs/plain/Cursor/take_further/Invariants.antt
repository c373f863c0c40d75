use Rattle.std.proofs.Common.{◌++◌, length}
use Rattle.gr_value.specs.ValueText.{field_text}
use Rattle.gr_value.proofs.FieldsTaken.{HasTaken}
use Rattle.gr_value.proofs.plain.Cursor.take_further.Given as goal

abbrev pub invariant-fields : goal.invariant-fields
invariant-fields l = HasTaken (field_text l.fn.first ++ l.fn.self) l.fields.items l.self

abbrev pub decreases-fields : goal.decreases-fields
decreases-fields l = length l.self
