use Rattle.std.specs.Prelude.{vec_len}
use Rattle.gr_runner.specs.Makings.{AreEachAt}
use Rattle.gr_runner.proofs.undoing.undo.Given as goal

abbrev pub invariant-loop-member : goal.invariant-loop-member
invariant-loop-member g l = AreEachAt l.members.items l.passes.items

abbrev pub decreases-loop-member : goal.decreases-loop-member
decreases-loop-member g l = vec_len l.members
