use Rattle.std.proofs.Common.{inl, inr}
use Rattle.gr_top.specs.declared.cause.Cause.TheVariants.{Memory}
use Rattle.gr_main.proofs.run.Goals as goal

pub returns : goal.returns
returns g c = elim c.answer.ensures
    [ inl run ↦ (run.answered.cause, run.answered.status_is) | inr lacks ↦ (Memory, lacks.status_is) ]
