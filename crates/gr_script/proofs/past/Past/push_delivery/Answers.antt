use Rattle.std.proofs.Common.{◌∙◌, ap, refl}
use Rattle.gr_script.specs.Plain.{delivery_saying}
use Rattle.gr_script.specs.Taken.{lines_taken}
use Rattle.gr_script.proofs.Taking.{line_next}
use Rattle.gr_script.proofs.past.Past.push_delivery.Goals as goal

pub returns-clause-line : goal.returns-clause-line
returns-clause-line c =
    ap lines_taken c.in_ok-put.ensures
    ∙ line_next c.args.self.now (delivery_saying c.args.delivery) _ c.args.after.now c.requires refl
