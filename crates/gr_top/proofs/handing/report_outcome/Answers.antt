use Rattle.std.proofs.Common.{refl}
use Rattle.gr_top.proofs.handing.report_outcome.Goals as goal

pub returns-in-Err-clause-explained : goal.returns-in-Err-clause-explained
returns-in-Err-clause-explained g c request source stops =
    rw c.ended.ensures ((rw c.in-Err.is at stops) _ (record { bytes = refl; faults = refl }))

pub returns-in-Ok-clause-explained : goal.returns-in-Ok-clause-explained
returns-in-Ok-clause-explained g c request source leaves =
    rw c.ended-in-Ok.ensures (c.hand_out_report-cause.ensures request source (rw c.in-Ok.is at leaves))
