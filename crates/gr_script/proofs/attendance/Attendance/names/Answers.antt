use Rattle.std.proofs.Common.{◌∙◌, None, option_copied, sym, ap}
use Rattle.gr_script.specs.declared.attendance.Presence.{Presence}
use Rattle.gr_script.proofs.Absences.{kept_at}
use Rattle.gr_script.proofs.attendance.Attendance.names.Goals as goal

pub returns-in-None : goal.returns-in-None
returns-in-None c =
    ap (λ (p : Presence). p.names) (kept_at c.args.self.now c.args.client None (sym (ap option_copied c.in-None.is) ∙ c.of.ensures))
