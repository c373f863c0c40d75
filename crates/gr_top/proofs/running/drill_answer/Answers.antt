use Rattle.std.proofs.Common.{refl}
use Rattle.gr_top.specs.declared.words.Request.TheVariants as request
use Rattle.gr_top.proofs.Endings.{within_untouched}
use Rattle.gr_top.proofs.running.drill_answer.Goals as goal

pub returns-in-Err-clause-explained : goal.returns-in-Err-clause-explained
returns-in-Err-clause-explained g c source untouched =
    rw c.ended.ensures ((untouched, tt), within_untouched source untouched, record { bytes = refl; faults = refl })

pub returns-in-Ok-clause-explained : goal.returns-in-Ok-clause-explained
returns-in-Ok-clause-explained g c source untouched =
    let script = c.in-Ok.field-0.script in
    let drill = c.in-Ok.ensures in
    rw c.ended-in-Ok.ensures
    (c.hand_out_summary-cause.ensures (request.Drill c.args.start c.args.steps) source (untouched, (script, drill))
    (within_untouched source untouched) (untouched, (script, drill, refl)))
