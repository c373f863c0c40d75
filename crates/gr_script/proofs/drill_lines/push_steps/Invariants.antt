use Rattle.std.proofs.Common.{◌≡◌, ◌+◌, ◌-◌, ◌++◌}
use Rattle.gr_script.specs.Drill.{drill_steps}
use Rattle.gr_script.proofs.drill_lines.push_steps.Given as goal

abbrev pub invariant-loop-step : goal.invariant-loop-step
invariant-loop-step l = l.lines ++ drill_steps (l.steps + 1 - l.step) l.step l.x ≡ l.initial.lines ++ drill_steps l.steps 1 l.start
