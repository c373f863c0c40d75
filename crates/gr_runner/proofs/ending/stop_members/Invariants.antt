use Rattle.std.specs.Prelude.{vec_len}
use Rattle.gr_host.specs.Houses.{ArePassesOf}
use Rattle.gr_runner.proofs.ending.stop_members.Given as goal

abbrev pub invariant-loop-member : goal.invariant-loop-member
invariant-loop-member g l = ArePassesOf l.members.items l.desks.items

abbrev pub decreases-loop-member : goal.decreases-loop-member
decreases-loop-member g l = vec_len l.members
