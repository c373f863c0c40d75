use Rattle.std.proofs.Common.{◌≡◌, ◌∙◌, List, length, drop, subst, sym}
use Rattle.std.specs.Prelude.{vec_len}
use Rattle.std.specs.Vec.{with_items}
use Rattle.gr_member.specs.Seats.{Place}
use Rattle.gr_host.specs.Joins.{Joined}
use Rattle.gr_host.proofs.Lists.{take_filled}
use Rattle.gr_host.specs.Hosts.{CanBeDone}
use Rattle.gr_host.specs.declared.duties.Duty.TheVariants as duty_
use Rattle.gr_host.proofs.Hosting.{as_many, works_duty, works_join, works_report, works_sweep}
use Rattle.gr_host.proofs.host.Host.act.Goals as goal

pub returns-in_ok-report-in-Report-clause-worked : goal.returns-in_ok-report-in-Report-clause-worked
returns-in_ok-report-in-Report-clause-worked g c =
    let s = c.args.self.now in
    works_duty s (record s { pass = c.report.new.pass; courier = c.report.new.courier }) c.args.duty duty_.Report c.in-Report.is
    (works_report s c.report.new.pass c.report.new.courier (as_many c.args.members.now c.requires.at.0 s c.requires.at.1)
    c.in_ok-report-in-Report.ensures.done)

pub returns-in_ok-sweep-in-Sweep-clause-worked : goal.returns-in_ok-sweep-in-Sweep-clause-worked
returns-in_ok-sweep-in-Sweep-clause-worked g c =
    let s = c.args.self.now in
    works_duty s (record s { pass = c.sweep.new.pass }) c.args.duty (duty_.Sweep c.in-Sweep.moment) c.in-Sweep.is
    (works_sweep s c.sweep.new.pass c.in-Sweep.moment (as_many c.args.members.now c.requires.at.0 s c.requires.at.1)
    c.in_ok-sweep-in-Sweep.ensures.done)

pub returns-in_ok-join-in-Join-clause-worked : goal.returns-in_ok-join-in-Join-clause-worked
returns-in_ok-join-in-Join-clause-worked g c =
    let s = c.args.self.now in
    let from = c.in-Join.from in
    let q = c.join.new.pass in
    let visits = c.join.new.visits in
    let filled : (with_items c.args.self.now.visits visits).items ≡ visits =
    take_filled (vec_len c.args.self.now.visits) visits (drop (length visits) c.args.self.now.visits.items)
    (c.join.ensures.visits.many ∙ c.as_mut_slice.ensures.len) in
    let other = subst (CanBeDone c.args.self.now) c.in-Join.is c.requires.duty in
    works_duty s (record s { pass = q; visits = with_items c.args.self.now.visits visits }) c.args.duty (duty_.Join from) c.in-Join.is
    (works_join s q (with_items c.args.self.now.visits visits) from other.0
    (subst (λ (w : List (List Place)). Joined s.plan from s.pass q s.visits.items w) (sym filled)
    (subst (λ (v : List (List Place)). Joined s.plan from s.pass q v visits) c.as_mut_slice.ensures.value
    c.in_ok-join-in-Join.ensures.joined)))
