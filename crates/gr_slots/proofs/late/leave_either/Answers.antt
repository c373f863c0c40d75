use Rattle.std.proofs.Common.{◌∙◌, ap, sym, subst}
use Rattle.gr_slots.specs.Late.{with_late, IsApart}
use Rattle.gr_slots.proofs.Waiting.{either, late_slot, still_late, found_late, leave_found, leave_taken, apart_left, apart_taken}
use Rattle.gr_slots.proofs.Listed.{drop_listed}
use Rattle.gr_slots.proofs.late.leave_either.Goals as goal

pub returns-in-Some-clause-slot : goal.returns-in-Some-clause-slot
returns-in-Some-clause-slot c =
    sym (found_late c.args.key.now c.args.late.now c.args.cells.now c.requires.apart
    ∙ ap (λ found. either found (late_slot c.args.key.now c.args.late.now)) (sym c.in-Some.ensures.slot))

pub returns-in-Some-clause-gone : goal.returns-in-Some-clause-gone
returns-in-Some-clause-gone c =
    ap (with_late c.args.late.now) c.leave.ensures.gone
    ∙ leave_found c.args.key.now c.args.late.now c.args.cells.now c.in-Some.slot c.requires.ordered c.requires.apart
    c.in-Some.ensures.slot

pub returns-in-Some-clause-apart : goal.returns-in-Some-clause-apart
returns-in-Some-clause-apart c =
    subst (IsApart c.args.late.now) (sym c.leave.ensures.gone)
    (apart_left c.args.key.now c.args.late.now c.args.cells.now c.requires.ordered c.requires.apart)

pub returns-in-Some-clause-indexed : goal.returns-in-Some-clause-indexed
returns-in-Some-clause-indexed c unlisted removals are =
    drop_listed unlisted c.args.cells.now c.leave.new.self removals c.args.key.now are c.leave.ensures.gone c.leave.ensures.ordered

pub returns-in-None-clause-slot : goal.returns-in-None-clause-slot
returns-in-None-clause-slot c =
    c.take_late.ensures.taken
    ∙ sym (found_late c.args.key.now c.args.late.now c.args.cells.now c.requires.apart
    ∙ ap (λ found. either found (late_slot c.args.key.now c.args.late.now)) (sym c.in-None.ensures.slot))

pub returns-in-None-clause-gone : goal.returns-in-None-clause-gone
returns-in-None-clause-gone c =
    ap (λ late. with_late late c.leave.new.self) c.take_late.ensures.left
    ∙ ap (with_late (still_late c.args.key.now c.args.late.now)) c.leave.ensures.gone
    ∙ leave_taken c.args.key.now c.args.late.now c.args.cells.now c.requires.ordered

pub returns-in-None-clause-apart : goal.returns-in-None-clause-apart
returns-in-None-clause-apart c =
    subst (λ late. IsApart late c.leave.new.self) (sym c.take_late.ensures.left)
    (apart_taken c.args.key.now c.args.late.now c.leave.new.self
    (subst (IsApart c.args.late.now) (sym c.leave.ensures.gone)
    (apart_left c.args.key.now c.args.late.now c.args.cells.now c.requires.ordered c.requires.apart)))

pub returns-in-None-clause-indexed : goal.returns-in-None-clause-indexed
returns-in-None-clause-indexed c unlisted removals are =
    drop_listed unlisted c.args.cells.now c.leave.new.self removals c.args.key.now are c.leave.ensures.gone c.leave.ensures.ordered
