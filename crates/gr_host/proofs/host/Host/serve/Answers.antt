use Rattle.std.proofs.Common.{◌≡◌, List, subst, sym}
use Rattle.std.specs.Global.{Vec}
use Rattle.gr_post.specs.Couriers.{passes_of}
use Rattle.gr_post.specs.Passes.{Sending, Taking}
use Rattle.gr_member.specs.Seats.{Place}
use Rattle.gr_member.specs.Passes.{StaysAll}
use Rattle.gr_host.specs.Houses.{StayAt}
use Rattle.gr_host.specs.Hosts.{IsHosted}
use Rattle.gr_host.proofs.Leaving.{leaves}
use Rattle.gr_host.proofs.Lists.{some_weaker}
use Rattle.gr_host.proofs.Staying.{all_trans, at_trans}
use Rattle.gr_host.proofs.host.Host.serve.Goals as goal

pub returns-in_default-close-clause-pass : goal.returns-in_default-close-clause-pass
returns-in_default-close-clause-pass g c =
    subst (λ (p : List Place). StaysAll c.args.self.pass p) (sym c.give_up-in_default-close.ensures.pass)
    (all_trans c.args.self.pass c.work.new.self.pass c.close.new.self.pass c.work.ensures.goes.stays c.close.ensures.goes.stays)

pub returns-in_default-close-clause-visits : goal.returns-in_default-close-clause-visits
returns-in_default-close-clause-visits g c =
    subst (λ (v : Vec (List Place)). StayAt c.args.self.visits.items v.items) (sym c.give_up-in_default-close.ensures.visits)
    (at_trans c.args.self.visits.items c.work.new.self.visits.items c.close.new.self.visits.items c.work.ensures.goes.visits
    c.close.ensures.goes.visits)

pub returns-clause-pass : goal.returns-clause-pass
returns-clause-pass g c =
    subst (λ (p : List Place). StaysAll c.args.self.pass p) (sym c.leave.ensures.pass)
    (all_trans c.args.self.pass c.work.new.self.pass c.close.new.self.pass c.work.ensures.goes.stays c.close.ensures.goes.stays)

pub returns-clause-visits : goal.returns-clause-visits
returns-clause-visits g c =
    subst (λ (v : Vec (List Place)). StayAt c.args.self.visits.items v.items) (sym c.leave.ensures.visits)
    (at_trans c.args.self.visits.items c.work.new.self.visits.items c.close.new.self.visits.items c.work.ensures.goes.visits
    c.close.ensures.goes.visits)

pub returns-clause-hosted : goal.returns-clause-hosted
returns-clause-hosted g c =
    let s = c.args.self in
    let u = c.close.new.self in
    some_weaker c.leave.result.mail (λ (m : Taking × List Sending). (m.0 ≡ u.take) × (m.1 ≡ passes_of u.courier))
    (λ (m : Taking × List Sending). IsHosted s c.leave.result.pass c.leave.result.visits.items m.0 m.1)
    (λ m is.
    subst (λ (t : Taking). IsHosted s c.leave.result.pass c.leave.result.visits.items t m.1) (sym is.0)
    (subst (λ (p : List Place). IsHosted s p c.leave.result.visits.items u.take m.1) (sym c.leave.ensures.pass)
    (subst (λ (v : Vec (List Place)). IsHosted s u.pass v.items u.take m.1) (sym c.leave.ensures.visits)
    (leaves c.args.members.now c.args.inboxes.now s c.work.new.self c.last.new.self u m.1 c.requires.at c.requires.begun
    c.work.ensures.goes c.work.ensures.carries c.in-Ok.ensures.worked c.in-Ok-last.ensures.ended c.in-Ok-last.ensures.passes
    c.close.ensures.goes c.close.ensures.carries c.in-Ok-close.ensures.worked c.in-Ok-close.ensures.done c.close.ensures.at.mail
    c.leave.ensures.plan is.1))))
    c.leave.ensures.mail
