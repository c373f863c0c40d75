use Rattle.std.proofs.Common.{[]}
use Rattle.gr_runner.specs.Stepping.{AreStepsOf}
use Rattle.gr_runner.proofs.stepping.none_each.Given as goal

abbrev pub invariant-loop-k : goal.invariant-loop-k
invariant-loop-k l = AreStepsOf [] l._k l.each.items
