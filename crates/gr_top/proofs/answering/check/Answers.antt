use Rattle.std.proofs.Common.{refl, None, subst, sym}
use Rattle.gr_top.specs.declared.words.Mode.TheVariants as mode
use Rattle.gr_top.specs.declared.words.Request.TheVariants as request
use Rattle.gr_top.specs.Outcomes.{IsPrinted}
use Rattle.gr_top.proofs.Endings.{written_explains}
use Rattle.gr_top.proofs.answering.check.Goals as goal

pub returns-in-Ok : goal.returns-in-Ok
returns-in-Ok g c =
    written_explains (request.Alone mode.Check) _ _ None c.as_slice.result.now c.hand_out.result
    (refl, subst (IsPrinted _) (sym c.as_slice.ensures.value) c.in-Ok.ensures) c.hand_out.ensures

pub returns-in-Err : goal.returns-in-Err
returns-in-Err g c = c.in-Err.ensures _ (record { bytes = refl; faults = refl })
