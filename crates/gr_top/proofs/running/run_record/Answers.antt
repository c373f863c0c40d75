use Rattle.std.proofs.Common.{refl}
use Rattle.gr_top.specs.declared.words.Request.TheVariants as request
use Rattle.gr_top.specs.Outcomes.{IsRunOf}
use Rattle.gr_top.proofs.Endings.{within}
use Rattle.gr_top.proofs.running.run_record.Goals as goal

pub returns-in-Err : goal.returns-in-Err
returns-in-Err g c detail = c.in-Err.ensures (request.Run detail) tt refl

pub returns-in-Ok-run_expanded : goal.returns-in-Ok-run_expanded
returns-in-Ok-run_expanded g c detail =
    let given = c.in-Ok.ensures (request.Run detail) tt refl in
    let left : IsRunOf _ _ = record { text = given.0; script = c.in-Ok.script; given = given.1; left = c.in-Ok-run_expanded.ensures } in
    record { within = within _ given.0 given.1.whole; keeps = left; prints = (left, refl) }

pub returns-in-Err-run_expanded : goal.returns-in-Err-run_expanded
returns-in-Err-run_expanded g c detail sink untouched =
    let given = c.in-Ok.ensures (request.Run detail) tt refl in
    (tt, within _ given.0 given.1.whole, untouched)
