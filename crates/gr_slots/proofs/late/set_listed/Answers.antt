use Rattle.std.proofs.Common.{◌∙◌, ap, None}
use Rattle.gr_slots.specs.Removals.{is_moment}
use Rattle.gr_slots.proofs.Listed.{more_listed, set_listed}
use Rattle.gr_slots.proofs.late.set_listed.Goals as goal

pub returns-in_err-note-clause-indexed : goal.returns-in_err-note-clause-indexed
returns-in_err-note-clause-indexed c =
    more_listed None c.args.cells.now c.args.removals.now c.note.new.removals c.requires c.note.ensures.stays
    (c.note.ensures.ordered c.requires.in_time)

pub returns-in_err-set-clause-indexed : goal.returns-in_err-set-clause-indexed
returns-in_err-set-clause-indexed c =
    set_listed c.set-before.result.1 c.args.cells.now c.set-before.new.self c.args.removals.now c.note.new.removals c.args.key.now
    c.args.slot c.requires c.note.ensures.stays (c.note.ensures.ordered c.requires.in_time)
    (λ at is. c.in_ok-note.ensures.listed at (ap (is_moment at) c.removed_at.ensures ∙ is)) c.set-before.ensures.ok c.set-before.ensures.err

pub returns-clause-indexed : goal.returns-clause-indexed
returns-clause-indexed c =
    set_listed c.set-before.result.1 c.args.cells.now c.set-before.new.self c.args.removals.now c.note.new.removals c.args.key.now
    c.args.slot c.requires c.note.ensures.stays (c.note.ensures.ordered c.requires.in_time)
    (λ at is. c.in_ok-note.ensures.listed at (ap (is_moment at) c.removed_at.ensures ∙ is)) c.set-before.ensures.ok c.set-before.ensures.err
