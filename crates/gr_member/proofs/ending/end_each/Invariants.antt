use Rattle.std.specs.Prelude.{vec_len}
use Rattle.gr_member.specs.Passes.{AreTheirs, HaveAll}
use Rattle.gr_member.proofs.Leaving.{EndedSoFar}
use Rattle.gr_member.proofs.ending.end_each.Given as goal

abbrev pub invariant-loop-lock : goal.invariant-loop-lock
invariant-loop-lock g l = record {
  theirs : AreTheirs l.locks.items l.shards.items;
  all : HaveAll l.shards.items;
  ended : EndedSoFar l.fn.shards.items l.shards.items l.records;
}

abbrev pub decreases-loop-lock : goal.decreases-loop-lock
decreases-loop-lock g l = vec_len l.locks
