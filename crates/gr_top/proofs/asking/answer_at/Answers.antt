use Rattle.std.proofs.Common.{refl}
use Rattle.gr_top.proofs.asking.answer_at.Goals as goal

pub returns-in-Err-clause-explained : goal.returns-in-Err-clause-explained
returns-in-Err-clause-explained g c = rw c.ended.ensures (c.in-Err.ensures _ (record { bytes = refl; faults = refl }))

pub returns-in-Ok-clause-explained : goal.returns-in-Ok-clause-explained
returns-in-Ok-clause-explained g c = rw c.ended-in-Ok.ensures (c.hand_out_wanted-cause.ensures _ c.in-Ok.ensures)
