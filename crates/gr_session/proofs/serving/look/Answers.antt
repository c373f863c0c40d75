use Rattle.gr_value.specs.Shard.{shard_of}
use Rattle.gr_member.proofs.Passing.{pass_stays}
use Rattle.gr_session.proofs.Making.{still_stays}
use Rattle.gr_session.proofs.Seeing.{looks_behind, still_more}
use Rattle.gr_session.proofs.serving.look.Goals as goal

pub peek-requires : goal.peek-requires
peek-requires g c =
    pass_stays c.args.member.now c.args.pass.now c.loop.pass c.requires (still_stays c.args.pass.now c.loop.pass c.loop.invariant.2)

pub returns-in-Ok-clause-still : goal.returns-in-Ok-clause-still
returns-in-Ok-clause-still g c =
    still_more c.args.key.now c.peek.result (shard_of c.args.key.now c.args.member.now.plan.shards) c.args.pass.now c.loop.pass
    c.peek.new.pass c.loop.invariant.2 c.peek.ensures.peeks

pub returns-in-Ok-clause-behind : goal.returns-in-Ok-clause-behind
returns-in-Ok-clause-behind g c =
    looks_behind c.args.member.now.plan.shards c.args.key.now c.in-Ok.seen c.args.pass.now c.loop.pass c.peek.new.pass
    c.loop.invariant.2 c.in-Ok.ensures.peeks

pub returns-in-Err-Memory-clause-still : goal.returns-in-Err-Memory-clause-still
returns-in-Err-Memory-clause-still g c =
    still_more c.args.key.now c.peek.result (shard_of c.args.key.now c.args.member.now.plan.shards) c.args.pass.now c.loop.pass
    c.peek.new.pass c.loop.invariant.2 c.peek.ensures.peeks

pub loop-preserved : goal.loop-preserved
loop-preserved g c = (
  tt,
  tt,
  still_more c.args.key.now c.peek.result (shard_of c.args.key.now c.args.member.now.plan.shards) c.args.pass.now c.loop.pass
      c.peek.new.pass c.loop.invariant.2 c.peek.ensures.peeks,
)
