use Rattle.gr_session.proofs.Attending.{goes_at, goes_trans, more_none, more_one}
use Rattle.gr_session.proofs.client.work.Goals as goal

pub step-requires-after_bounds : goal.step-requires-after_bounds
step-requires-after_bounds g c κs within =
    goes_at c.args.member.now c.args.inboxes.now c.args.session.now c.loop.session c.loop.invariant.2.goes c.requires

pub returns-in_err-step-clause-goes : goal.returns-in_err-step-clause-goes
returns-in_err-step-clause-goes g c =
    goes_trans c.args.session.now c.loop.session c.step.new.self c.loop.invariant.2.goes c.step.ensures.goes

pub loop-init : goal.loop-init
loop-init g c = (tt, tt, more_none c.args.session.now)

pub loop-preserved : goal.loop-preserved
loop-preserved g c = (
  tt,
  tt,
  more_one c.args.session.now c.loop.session c.step.new.self c.loop.invariant.2 c.step.ensures.goes
      (c.in_ok-step.ensures.served c.if-not-branch.false) c.in_ok-step.ensures.waited,
)
