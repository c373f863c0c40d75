use Rattle.std.proofs.Common.{refl}
use Rattle.gr_member.proofs.Passing.{looks_stay}
use Rattle.gr_session.proofs.Adding.{ready_now}
use Rattle.gr_session.proofs.Growing.{keeps_served, stays_at}
use Rattle.gr_session.proofs.Mailing.{carries_same}
use Rattle.gr_session.proofs.session.Session.ready.Goals as goal

pub returns-clause-at : goal.returns-clause-at
returns-clause-at g c = λ rings at.
    stays_at c.args.member.now rings c.args.self.now (record c.args.self.now { pass = c.ready.new.pass }) at refl
    (looks_stay c.args.self.now.pass c.ready.new.pass c.ready.ensures.looks) (carries_same c.args.self.now.courier)

pub returns-clause-served : goal.returns-clause-served
returns-clause-served g c = keeps_served c.args.self.now c.ready.new.pass c.ready.ensures.looks

pub returns-clause-ready : goal.returns-clause-ready
returns-clause-ready g c = λ e none.
    ready_now c.args.member.now.plan c.args.self.now.pass c.ready.new.pass c.ready.ensures.looks (c.ready.ensures.ready e) none
