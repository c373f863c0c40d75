use Rattle.std.specs.Prelude.{vec_len}
use Rattle.gr_member.specs.Passes.{AreTheirs}
use Rattle.gr_member.proofs.ending.stop_each.Given as goal

abbrev pub invariant-loop-lock : goal.invariant-loop-lock
invariant-loop-lock g l = AreTheirs l.locks.items l.shards.items

abbrev pub decreases-loop-lock : goal.decreases-loop-lock
decreases-loop-lock g l = vec_len l.locks
