use Rattle.std.proofs.Common.{arith}
use Rattle.gr_member.proofs.Dealt.{dealt_more, dealt_fresh, dealt_shown}
use Rattle.gr_member.proofs.member.Member.new.Goals as goal

pub loop-shard-preserved : goal.loop-shard-preserved
loop-shard-preserved g c = record {
  held = let room = c.loop-shard.invariant.held in let same = c.push_reserved.ensures.capacity in omega arith;
  dealt = dealt_more c.args.plan c.args.shown c.args.passes c.loop-shard.locks.items c.push_reserved.new.self.items c.in-Ok-open.opened.lock
      c.loop-shard.dealt.items c.deal.new.passes.items c.in-Ok-open.opened.seats c.in-Ok-open.opened.watches.items c.loop-shard.shard
      c.loop-shard.invariant.dealt c.in-Ok-open.ensures.each c.in-Ok-open.ensures.watched c.deal.ensures c.push_reserved.ensures.items;
}

pub returns-clause-fresh : goal.returns-clause-fresh
returns-clause-fresh g c = dealt_fresh c.args.plan c.args.shown c.args.passes c.loop-shard.locks.items c.loop-shard.dealt.items c.loop-shard.shard
    c.loop-shard.invariant.dealt

pub returns-clause-shown : goal.returns-clause-shown
returns-clause-shown g c = dealt_shown c.args.plan c.args.shown c.args.passes c.loop-shard.locks.items c.loop-shard.dealt.items c.loop-shard.shard
    c.loop-shard.invariant.dealt
