use Rattle.std.proofs.Common.{length, take}
use Rattle.gr_runner.specs.Stepping.{AreStepsOf}
use Rattle.gr_runner.proofs.stepping.steps_each.Given as goal

abbrev pub invariant-loop-line : goal.invariant-loop-line
invariant-loop-line l = AreStepsOf (take l.line-index l.line-items) (length l.script.clients) l.each.items
