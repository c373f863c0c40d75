use Rattle.std.proofs.Common.{length}
use Rattle.gr_member.specs.Passes.{IsPassOf}
use Rattle.gr_runner.specs.Makings.{AreOf}
use Rattle.gr_runner.proofs.undoing.undo_one.Given as goal

abbrev pub invariant-loop-from : goal.invariant-loop-from
invariant-loop-from g l = record {
  one : IsPassOf l.member l.into;
  rest : AreOf l.member l.passes;
}

abbrev pub decreases-loop-from : goal.decreases-loop-from
decreases-loop-from g l = length l.passes
