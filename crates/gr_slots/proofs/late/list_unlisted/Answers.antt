use Rattle.std.proofs.Common.{◌∙◌, ap, subst}
use Rattle.gr_slots.specs.Slots.{removed_at}
use Rattle.gr_slots.specs.Removals.{is_moment, AreIndexed}
use Rattle.gr_slots.proofs.Listed.{more_listed, all_listed}
use Rattle.gr_slots.proofs.late.list_unlisted.Goals as goal

pub returns-in_err-note-clause-indexed : goal.returns-in_err-note-clause-indexed
returns-in_err-note-clause-indexed c =
    more_listed c.args.unlisted.now c.args.cells.now c.args.removals.now c.note.new.removals c.requires c.note.ensures.stays
    (c.note.ensures.ordered c.requires.in_time)

pub returns-clause-indexed : goal.returns-clause-indexed
returns-clause-indexed c =
    all_listed c.in-Some.key c.args.cells.now c.args.removals.now c.note.new.removals
    (subst (λ unlisted. AreIndexed unlisted c.args.cells.now c.args.removals.now) c.in-Some.is c.requires) c.note.ensures.stays
    (c.note.ensures.ordered c.requires.in_time)
    (λ at is. c.in_ok-note.ensures.listed at (ap (is_moment at) (c.removed_at.ensures ∙ ap removed_at c.find.ensures) ∙ is))
