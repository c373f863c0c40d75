use Rattle.std.proofs.Common.{◌∷◌, sym, subst}
use Rattle.gr_script.specs.declared.line.Line.{Line}
use Rattle.gr_script.specs.Absence.{IsAttendance}
use Rattle.gr_script.proofs.attendance.Attendance.note.Goals as goal

pub returns-in_ok-note_step-in-Step-clause-ok : goal.returns-in_ok-note_step-in-Step-clause-ok
returns-in_ok-note_step-in-Step-clause-ok c past before =
    subst (λ (l : Line). IsAttendance c.note_step.new.self (l ∷ past)) (sym c.in-Step.is)
    (c.in_ok-note_step-in-Step.ensures.ok c.in-Step.seq past before)
