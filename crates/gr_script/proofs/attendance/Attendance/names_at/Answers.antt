use Rattle.std.proofs.Common.{◌≡◌, ◌∙◌, ℕ, List, [], ◌&&◌, cond, None, option_copied, slice_get, IfOk, sym, ap, subst}
use Rattle.gr_script.specs.declared.attendance.Presence.{Presence}
use Rattle.gr_script.specs.Absence.{is_late}
use Rattle.gr_script.proofs.Absences.{both_none, kept_at}
use Rattle.gr_script.proofs.attendance.Attendance.names_at.Goals as goal

pub returns-in-None : goal.returns-in-None
returns-in-None c =
    let none = kept_at c.args.self.now c.args.client None
    (sym (ap option_copied c.in-None.is) ∙ c.of.ensures ∙ ap (slice_get c.args.self.now) c.from.ensures) in
    subst
    (λ (p : Presence). IfOk c.new-in-None.result
    (λ names. names ≡ cond (c.args.back && is_late p.moment c.args.moment) [] p.names))
    none
    (subst (λ (all : List (List ℕ)). IfOk c.new-in-None.result (λ names. names ≡ all))
    (sym (both_none (c.args.back && is_late 0 c.args.moment))) c.new-in-None.ensures)
