use Rattle.std.proofs.Common.{◌∙◌, ap, arith}
use Rattle.serde_json.specs.View.{view, members_view}
use Rattle.serde_json.proofs.Views.{view-Object, members_len-members_view}
use Rattle.gr_value.proofs.reading.fields_of_json.Goals as goal

pub fields_of-requires : goal.fields_of-requires
fields_of-requires c =
    let few = c.requires.few (members_view c.in-Object.members.entries) (ap view c.in-Object.is ∙ view-Object c.in-Object.members) in
    record { few = omega (arith, few, members_len-members_view c.in-Object.members.entries) }
