use Rattle.gr_member.proofs.Passing.{pass_stays}
use Rattle.gr_session.proofs.Attending.{only_made, only_more, only_stays}
use Rattle.gr_session.proofs.client.wait.Goals as goal

pub ready-requires-after_bounds : goal.ready-requires-after_bounds
ready-requires-after_bounds g c κs within =
    pass_stays c.args.member.now c.args.session.now.pass c.loop.session.pass c.requires
    (only_stays c.args.session.now c.loop.session c.loop.invariant.2)

pub returns-then-ready-clause-looks : goal.returns-then-ready-clause-looks
returns-then-ready-clause-looks g c =
    only_more c.args.session.now c.loop.session c.ready.new.self c.loop.invariant.2 c.ready.ensures.goes c.ready.ensures.looks

pub returns-then-ready-clause-waited : goal.returns-then-ready-clause-waited
returns-then-ready-clause-waited g c = λ none.
    c.ready.ensures.ready c.if-ready.true (only_made c.args.session.now c.loop.session c.loop.invariant.2 none)

pub returns-then-load-clause-looks : goal.returns-then-load-clause-looks
returns-then-load-clause-looks g c =
    only_more c.args.session.now c.loop.session c.ready.new.self c.loop.invariant.2 c.ready.ensures.goes c.ready.ensures.looks

pub loop-preserved : goal.loop-preserved
loop-preserved g c = (
  tt,
  tt,
  only_more c.args.session.now c.loop.session c.ready.new.self c.loop.invariant.2 c.ready.ensures.goes c.ready.ensures.looks,
)
