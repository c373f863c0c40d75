use Rattle.gr_script.proofs.Drills.{steps_more}
use Rattle.gr_script.proofs.drill_lines.push_steps.Goals as goal

pub loop-step-preserved : goal.loop-step-preserved
loop-step-preserved c =
    let l = c.loop-step in
    steps_more c.args.steps l.step l.x c.drawn-first.result c.drawn-second.result l.lines c.push_step.new.lines _
    c.loop-step-test.true c.drawn-first.ensures c.drawn-second.ensures c.in_ok-push_step.ensures l.invariant
