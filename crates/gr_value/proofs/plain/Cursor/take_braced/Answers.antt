use Rattle.std.proofs.Common.{◌≡◌, ◌++◌}
use Rattle.std.specs.List.{AllByRecursion, join_by}
use Rattle.std.specs.Prelude.{codes}
use Rattle.gr_value.specs.ValueText.{field_text}
use Rattle.gr_value.specs.Values.{IsField}
use Rattle.gr_value.proofs.FieldsTaken.{braced_taken}
use Rattle.gr_value.proofs.plain.Cursor.take_braced.Goals as goal

pub returns-then-take : goal.returns-then-take
returns-then-take c =
    let read : (c.take.new.self ≡ join_by field_text (codes ",") c.in-Some.fields ++ c.take_fields.new.self)
    × AllByRecursion IsField c.in-Some.fields = rw c.in-Some.is at c.in_ok-fields.ensures in
    (braced_taken _ _ _ _ _ c.if-not-take.ensures read.0 c.if-take.ensures, read.1)
