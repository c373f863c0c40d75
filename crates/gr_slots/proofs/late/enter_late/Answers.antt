use Rattle.std.proofs.Common.{◌∙◌, ap, sym, subst}
use Rattle.gr_slots.specs.Slots.{with_slot}
use Rattle.gr_slots.specs.Late.{with_late, IsApart}
use Rattle.gr_slots.proofs.late.enter_late.Goals as goal

pub returns-in_err-set_listed-clause-apart : goal.returns-in_err-set_listed-clause-apart
returns-in_err-set_listed-clause-apart c =
    subst (IsApart c.args.late.now) (sym c.in_err-set_listed.ensures.err) c.requires.apart

pub returns-clause-rows : goal.returns-clause-rows
returns-clause-rows c =
    c.in_ok-set_listed.ensures.ok ∙ ap (λ slot. with_slot c.in-Some.key slot c.args.cells.now) c.in_ok-copy.ensures
    ∙ sym (ap (λ late. with_late late c.args.cells.now) c.in-Some.is)
