use Rattle.std.proofs.Common.{[]}
use Rattle.gr_host.proofs.Hosting.{goes_trans, work_none, work_on}
use Rattle.gr_host.proofs.host.Host.close.Goals as goal

pub loop-init : goal.loop-init
loop-init g c = (tt, tt, work_none c.args.members.now c.args.inboxes.now c.args.self.now c.requires.at)

pub returns-in_err-turn-clause-goes : goal.returns-in_err-turn-clause-goes
returns-in_err-turn-clause-goes g c =
    goes_trans c.args.self.now c.loop.self c.turn.new.self c.loop.invariant.2.goes c.turn.ensures.goes

pub returns-then-branch-clause-goes : goal.returns-then-branch-clause-goes
returns-then-branch-clause-goes g c =
    goes_trans c.args.self.now c.loop.self c.turn.new.self c.loop.invariant.2.goes c.turn.ensures.goes

pub returns-then-branch-clause-worked : goal.returns-then-branch-clause-worked
returns-then-branch-clause-worked g c =
    (work_on c.args.members.now c.args.inboxes.now c.args.self.now c.loop.self c.turn.new.self [] c.loop.invariant.2
    c.turn.ensures.at c.turn.ensures.goes c.turn.ensures.carries c.in_ok-turn.ensures.worked).worked

pub loop-preserved : goal.loop-preserved
loop-preserved g c = (
  tt,
  tt,
  work_on c.args.members.now c.args.inboxes.now c.args.self.now c.loop.self c.turn.new.self [] c.loop.invariant.2
      c.turn.ensures.at c.turn.ensures.goes c.turn.ensures.carries c.in_ok-turn.ensures.worked,
)
