use Rattle.gr_member.specs.Passes.{StaysAll}
use Rattle.gr_host.specs.Houses.{StayAt}
use Rattle.gr_host.specs.Joins.{JoinedWhere}
use Rattle.gr_host.proofs.Rounds.{givers_upto}
use Rattle.gr_host.proofs.joining.join_at.Given as goal

abbrev pub invariant-loop-at : goal.invariant-loop-at
invariant-loop-at g l = record {
  stays : StaysAll l.fn.pass l.pass;
  visits : StayAt l.fn.visits l.visits;
  joined : JoinedWhere (givers_upto l.at l.fn.shard) l.fn.plan l.fn.from l.fn.pass l.pass l.fn.visits l.visits;
}
