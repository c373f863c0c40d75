use Rattle.std.proofs.Common.{◌≡◌, ◌++◌, take}
use Rattle.std.specs.Prelude.{codes, flat_map}
use Rattle.gr_value.specs.ValueText.{field_text}
use Rattle.gr_value.proofs.printing.put_rest.Given as goal

abbrev pub invariant-loop-field : goal.invariant-loop-field
invariant-loop-field l = l.out.items ≡ l.fn.out.items ++ flat_map (λ field. codes "," ++ field_text field) (take l.field-index l.fields)
