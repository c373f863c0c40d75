use Rattle.std.proofs.Common.{◌≤◌}
use Rattle.std.specs.Prelude.{vec_capacity}
use Rattle.gr_member.proofs.Dealt.{AreDealt}
use Rattle.gr_member.proofs.member.Member.new.Given as goal

abbrev pub invariant-loop-shard : goal.invariant-loop-shard
invariant-loop-shard g l = record {
  held : l.plan.shards ≤ vec_capacity l.locks;
  dealt : AreDealt l.plan l.shown l.passes l.locks.items l.dealt.items l.shard;
}
