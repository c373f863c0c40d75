use Rattle.gr_member.specs.Passes.{StaysAll}
use Rattle.gr_host.specs.Houses.{StayAt}
use Rattle.gr_host.specs.Joins.{JoinedWhere}
use Rattle.gr_host.proofs.Rounds.{shards_upto}
use Rattle.gr_host.proofs.joining.join.Given as goal

abbrev pub invariant-loop-shard : goal.invariant-loop-shard
invariant-loop-shard g l = record {
  stays : StaysAll l.fn.pass l.pass;
  visits : StayAt l.fn.visits l.visits;
  joined : JoinedWhere (shards_upto l.shard) l.fn.plan l.fn.from l.fn.pass l.pass l.fn.visits l.visits;
}
