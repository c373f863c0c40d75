use Rattle.std.proofs.Common.{◌≡◌, take}
use Rattle.gr_script.specs.Steps.{steps_of}
use Rattle.gr_script.proofs.script.Script.steps.Given as goal

abbrev pub invariant-loop-line : goal.invariant-loop-line
invariant-loop-line l = l.steps ≡ steps_of l.client (take l.line-index l.line-items)
