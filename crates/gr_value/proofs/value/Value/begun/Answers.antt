use Rattle.std.proofs.Common.{◌≡◌, ◌∙◌, ap, sym, take, ◌++◌}
use Rattle.gr_value.specs.ValueText.{value_text}
use Rattle.gr_value.proofs.FieldsTaken.{begun, begun_text}
use Rattle.gr_value.proofs.value.Value.begun.Goals as goal

-- what was taken of the first bytes
taken : (c : goal.After-rest-1) → take c.min.result c.args.bytes.now ≡ value_text c.in-Some.fields ++ c.cursor.inside.rest.now
taken c =
    let text : take c.min.result c.args.bytes.now ≡ value_text c.in-Some.fields ++ c.take_value.new.self =
    rw c.in-Some.is at c.in_ok-fields.ensures.text in
    text ∙ ap (λ left. value_text c.in-Some.fields ++ left) (sym c.cursor.view_is)

pub with_text-requires : goal.with_text-requires
with_text-requires c =
    begun_text c.args.bytes.now (value_text c.in-Some.fields) c.cursor.inside.rest.now c.min.result (taken c)

pub returns-clause-text : goal.returns-clause-text
returns-clause-text c =
    let text : take c.min.result c.args.bytes.now ≡ value_text c.in-Some.fields ++ c.take_value.new.self =
    rw c.in-Some.is at c.in_ok-fields.ensures.text in
    rw (c.in_ok-value.ensures, c.in_ok-with_text.ensures) (begun c.args.bytes.now (value_text c.in-Some.fields) c.cursor.inside.rest.now c.min.result
    (text ∙ ap (λ left. value_text c.in-Some.fields ++ left) (sym c.cursor.view_is)))
