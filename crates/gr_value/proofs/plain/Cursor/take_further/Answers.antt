use Rattle.std.proofs.Common.{◌≡◌, ◌++◌, refl}
use Rattle.gr_value.specs.ValueText.{field_text}
use Rattle.gr_value.specs.Values.{IsField}
use Rattle.gr_value.proofs.FieldsTaken.{taken_first, taken_more, taken_shorter}
use Rattle.gr_value.proofs.plain.Cursor.take_further.Goals as goal

pub fields-init : goal.fields-init
fields-init c = rw (c.in_ok-push.ensures.items, c.in_ok-fields.ensures.items) (taken_first _ c.args.first _ refl c.requires)

pub fields-preserved : goal.fields-preserved
fields-preserved c =
    let next : (c.take.new.self ≡ field_text c.in-Some.field ++ c.take_field.new.self) × IsField c.in-Some.field =
    rw c.in-Some.is at c.in_ok-field.ensures in
    rw c.in_ok-push-2.ensures.items (taken_more _ _ c.in-Some.field _ _ _ c.fields.invariant c.fields-test.ensures next.0 next.1)

pub fields-smaller : goal.fields-smaller
fields-smaller c =
    let next : (c.take.new.self ≡ field_text c.in-Some.field ++ c.take_field.new.self) × IsField c.in-Some.field =
    rw c.in-Some.is at c.in_ok-field.ensures in
    taken_shorter c.in-Some.field _ _ _ c.fields-test.ensures next.0
