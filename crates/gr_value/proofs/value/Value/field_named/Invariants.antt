use Rattle.std.proofs.Common.{◌≡◌, drop}
use Rattle.gr_value.specs.Fields.{field_of}
use Rattle.gr_value.proofs.value.Value.field_named.Given as goal

-- what is looked for is in the fields that are left
abbrev pub invariant-loop-field : goal.invariant-loop-field
invariant-loop-field l = field_of l.name (drop l.field-index l.field-items) ≡ field_of l.name l.self
