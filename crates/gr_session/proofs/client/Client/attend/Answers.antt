use Rattle.std.proofs.Common.{subst, sym}
use Rattle.gr_member.specs.Passes.{StaysAll}
use Rattle.gr_member.specs.Seats.{Place}
use Rattle.std.proofs.Common.{List}
use Rattle.gr_session.proofs.Attending.{attended_if, only_at, only_stays, stays_all_trans}
use Rattle.gr_session.proofs.client.Client.attend.Goals as goal

pub returns-in_default-clause-stays : goal.returns-in_default-clause-stays
returns-in_default-clause-stays g c =
    subst (λ (p : List Place). StaysAll c.args.self.session.pass p) (sym c.give_up.ensures.pass)
    (only_stays c.args.self.session c.begin.new.session c.begin.ensures.looks)

pub work-requires-after_bounds : goal.work-requires-after_bounds
work-requires-after_bounds g c κs within =
    only_at c.args.member.now c.args.inboxes.now c.args.self.session c.begin.new.session c.begin.ensures.looks c.requires.at

pub returns-in_default-work-clause-stays : goal.returns-in_default-work-clause-stays
returns-in_default-work-clause-stays g c =
    subst (λ (p : List Place). StaysAll c.args.self.session.pass p) (sym c.give_up-in_default-work.ensures.pass)
    (stays_all_trans c.args.self.session.pass c.begin.new.session.pass c.work.new.session.pass
    (only_stays c.args.self.session c.begin.new.session c.begin.ensures.looks) c.work.ensures.goes.stays)

pub returns-clause-stays : goal.returns-clause-stays
returns-clause-stays g c =
    stays_all_trans c.args.self.session.pass c.work.new.session.pass c.leave.result.pass
    (stays_all_trans c.args.self.session.pass c.begin.new.session.pass c.work.new.session.pass
    (only_stays c.args.self.session c.begin.new.session c.begin.ensures.looks) c.work.ensures.goes.stays)
    c.leave.ensures.stays

pub returns-clause-attended : goal.returns-clause-attended
returns-clause-attended g c =
    attended_if c.args.member.now.plan c.args.self.session c.begin.new.session c.work.new.session c.args.self.waits c.leave.result.pass
    c.leave.result.told c.requires.at.plan_is c.requires.begun c.requires.fresh c.begin.ensures.looks c.in-Ok.ensures.waited
    c.in-Ok-work.ensures.more c.in-Ok-work.ensures.all c.leave.ensures.leaves
