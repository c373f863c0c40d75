use Rattle.std.proofs.Common.{◌∙◌, ap, sym}
use Rattle.gr_slots.proofs.Waiting.{either, late_slot, found_late}
use Rattle.gr_slots.proofs.late.find_either.Goals as goal

pub returns-in-Some : goal.returns-in-Some
returns-in-Some c =
    sym (found_late c.args.key.now c.args.late.now c.args.cells.now c.requires
    ∙ ap (λ found. either found (late_slot c.args.key.now c.args.late.now)) (sym c.in-Some.ensures))

pub returns-in-None : goal.returns-in-None
returns-in-None c =
    c.late_slot.ensures
    ∙ sym (found_late c.args.key.now c.args.late.now c.args.cells.now c.requires
    ∙ ap (λ found. either found (late_slot c.args.key.now c.args.late.now)) (sym c.in-None.ensures))
