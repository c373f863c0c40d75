use Rattle.std.specs.Prelude.{vec_len}
use Rattle.std.specs.List.{AllByRecursion}
use Rattle.gr_member.specs.Passes.{HaveAll}
use Rattle.gr_host.specs.Houses.{ArePassesOf}
use Rattle.gr_runner.proofs.Closing.{EndedSoFar}
use Rattle.gr_runner.proofs.ending.end_all.Given as goal

abbrev pub invariant-loop-member : goal.invariant-loop-member
invariant-loop-member g l = record {
  its : ArePassesOf l.members.items l.desks.items;
  all : AllByRecursion HaveAll l.desks.items;
  ended : EndedSoFar l.fn.members.items l.fn.desks.items l.members.items l.desks.items l.records;
}

abbrev pub decreases-loop-member : goal.decreases-loop-member
decreases-loop-member g l = vec_len l.members
