use Rattle.std.proofs.Common.{◌∙◌, ap, sym, subst, Some, None, is_some, if◌then◌else◌}
use Rattle.gr_slots.specs.Slots.{removed_at, slot_at, with_slot}
use Rattle.gr_slots.specs.Removals.{AreIndexed}
use Rattle.gr_slots.specs.Late.{with_late, IsApart}
use Rattle.gr_slots.proofs.Listed.{put_listed}
use Rattle.gr_slots.proofs.late.put_or_wait.Goals as goal

pub returns-in-Ok-clause-entries : goal.returns-in-Ok-clause-entries
returns-in-Ok-clause-entries c =
    ap (λ late. with_late late c.put.new.self) c.requires.late ∙ c.in-Ok.ensures.ok

pub returns-in-Ok-clause-apart : goal.returns-in-Ok-clause-apart
returns-in-Ok-clause-apart c = subst (λ late. IsApart late c.put.new.self) (sym c.requires.late) tt

pub returns-in-Ok-clause-indexed : goal.returns-in-Ok-clause-indexed
returns-in-Ok-clause-indexed c removals are =
    put_listed c.args.cells.now c.put.new.self removals c.args.key c.args.slot c.unlist.new.unlisted are c.in-Ok.ensures.ok
    c.put.ensures.ordered
    (c.unlist.ensures ∙ ap (λ b. if b then Some c.args.key else None) (c.is_some-is_removal.ensures ∙ ap is_some c.removed_at.ensures))

pub returns-in-Err-clause-before : goal.returns-in-Err-clause-before
returns-in-Err-clause-before c = sym (ap removed_at c.in-Err.ensures.absent)

pub returns-in-Err-clause-entries : goal.returns-in-Err-clause-entries
returns-in-Err-clause-entries c =
    ap (λ slot. with_slot c.args.key slot c.put.new.self) c.in-Err.ensures.back
    ∙ ap (with_slot c.args.key c.args.slot) c.in-Err.ensures.same

pub returns-in-Err-clause-apart : goal.returns-in-Err-clause-apart
returns-in-Err-clause-apart c = ap (slot_at c.args.key) c.in-Err.ensures.same ∙ c.in-Err.ensures.absent

pub returns-in-Err-clause-indexed : goal.returns-in-Err-clause-indexed
returns-in-Err-clause-indexed c removals are =
    subst (λ unlisted. AreIndexed unlisted c.put.new.self removals) (sym c.requires.unlisted)
    (subst (λ rows. AreIndexed None rows removals) (sym c.in-Err.ensures.same) are)
