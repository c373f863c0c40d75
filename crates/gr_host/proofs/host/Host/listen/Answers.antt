use Rattle.std.proofs.Common.{[], refl, ◌∙◌}
use Rattle.gr_host.proofs.Hosting.{carries_is, goes_trans, work_none, work_on}
use Rattle.gr_host.proofs.host.Host.listen.Goals as goal

pub loop-init : goal.loop-init
loop-init g c = (tt, tt, refl, work_none c.args.members.now c.args.inboxes.now c.args.self.now c.requires.at)

pub returns-in_err-hear_one-clause-goes : goal.returns-in_err-hear_one-clause-goes
returns-in_err-hear_one-clause-goes g c =
    goes_trans c.args.self.now c.loop.self c.hear_one.new.self c.loop.invariant.3.goes c.hear_one.ensures.goes

pub returns-then-not-branch-clause-goes : goal.returns-then-not-branch-clause-goes
returns-then-not-branch-clause-goes g c =
    goes_trans c.args.self.now c.loop.self c.hear_one.new.self c.loop.invariant.3.goes c.hear_one.ensures.goes

pub returns-then-not-branch-clause-worked : goal.returns-then-not-branch-clause-worked
returns-then-not-branch-clause-worked g c =
    (work_on c.args.members.now c.args.inboxes.now c.args.self.now c.loop.self c.hear_one.new.self [] c.loop.invariant.3
    c.hear_one.ensures.at c.hear_one.ensures.goes (carries_is c.loop.self.courier c.hear_one.new.self.courier c.hear_one.ensures.courier)
    c.in_ok-hear_one.ensures.worked).worked

pub loop-preserved : goal.loop-preserved
loop-preserved g c = (
  tt,
  tt,
  c.hear_one.ensures.courier ∙ c.loop.invariant.2,
  work_on c.args.members.now c.args.inboxes.now c.args.self.now c.loop.self c.hear_one.new.self [] c.loop.invariant.3
      c.hear_one.ensures.at c.hear_one.ensures.goes (carries_is c.loop.self.courier c.hear_one.new.self.courier c.hear_one.ensures.courier)
      c.in_ok-hear_one.ensures.worked,
)
