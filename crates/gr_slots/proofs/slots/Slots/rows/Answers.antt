use Rattle.std.proofs.Common.{sym, subst}
use Rattle.std.specs.Cmp.Lexicographic.{slice_cmp}
use Rattle.std.specs.List.Sorted.{IsStrictlySortedBy}
use Rattle.std.specs.Map.{keys_of}
use Rattle.std.specs.Ordering.{nat_cmp}
use Rattle.gr_slots.specs.Slots.{HeldSlots}
use Rattle.gr_slots.specs.Late.{IsApart}
use Rattle.gr_slots.proofs.Waiting.{late_ordered}
use Rattle.gr_slots.proofs.slots.Slots.rows.Goals as goal

pub merge-requires : goal.merge-requires
merge-requires c = subst (IsApart c.self.inside.late) (sym c.in_ok-rows.ensures) c.self.invariant.apart

pub returns-in_err-rows-clause-ordered : goal.returns-in_err-rows-clause-ordered
returns-in_err-rows-clause-ordered c =
    subst (λ (held : HeldSlots). IsStrictlySortedBy (slice_cmp nat_cmp) (keys_of held.entries)) c.self.view_is
    (late_ordered c.self.inside.late c.self.inside.cells c.self.invariant.indexed.ordered)

pub returns-in_err-merge-clause-ordered : goal.returns-in_err-merge-clause-ordered
returns-in_err-merge-clause-ordered c =
    subst (λ (held : HeldSlots). IsStrictlySortedBy (slice_cmp nat_cmp) (keys_of held.entries)) c.self.view_is
    (late_ordered c.self.inside.late c.self.inside.cells c.self.invariant.indexed.ordered)

pub returns-clause-ordered : goal.returns-clause-ordered
returns-clause-ordered c =
    subst (λ (held : HeldSlots). IsStrictlySortedBy (slice_cmp nat_cmp) (keys_of held.entries)) c.self.view_is
    (late_ordered c.self.inside.late c.self.inside.cells c.self.invariant.indexed.ordered)
