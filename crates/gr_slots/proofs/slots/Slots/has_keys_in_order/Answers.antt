use Rattle.std.proofs.Common.{subst}
use Rattle.std.specs.Cmp.Lexicographic.{slice_cmp}
use Rattle.std.specs.List.Sorted.{IsStrictlySortedBy}
use Rattle.std.specs.Map.{keys_of}
use Rattle.std.specs.Ordering.{nat_cmp}
use Rattle.gr_slots.specs.Slots.{HeldSlots}
use Rattle.gr_slots.proofs.Waiting.{late_ordered}
use Rattle.gr_slots.proofs.slots.Slots.has_keys_in_order.Goals as goal

pub returns : goal.returns
returns c =
    subst (λ (held : HeldSlots). IsStrictlySortedBy (slice_cmp nat_cmp) (keys_of held.entries)) c.self.view_is
    (late_ordered c.self.inside.late c.self.inside.cells c.self.invariant.indexed.ordered)
