use Rattle.std.proofs.Common.{List, ap, subst}
use Rattle.gr_member.specs.Left.{AreEndsOf}
use Rattle.gr_member.specs.Passes.{House}
use Rattle.gr_member.specs.Seats.{Place}
use Rattle.gr_member.proofs.Leaving.{left_by_pass}
use Rattle.gr_member.proofs.member.Member.end.Goals as goal

pub returns : goal.returns
returns g c = left_by_pass c.args.self c.args.pass _ c.requires.pass (ap (λ (h : House). h.plan.member) c.self.view_is)
    (subst (λ (p : List Place). AreEndsOf p c.in_ok-records.records) c.pass.view_is c.in_ok-records.ensures)
