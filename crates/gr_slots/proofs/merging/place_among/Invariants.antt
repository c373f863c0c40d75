use Rattle.std.proofs.Common.{◌≡◌, map}
use Rattle.std.specs.Map.Iter.{deref_pair}
use Rattle.gr_slots.specs.declared.slot.Slot.{Slot}
use Rattle.gr_slots.specs.Slots.{with_slot}
use Rattle.gr_slots.proofs.Merged.{merged_at}
use Rattle.gr_slots.proofs.merging.place_among.Given as goal

abbrev pub invariant-loop-place : goal.invariant-loop-place
invariant-loop-place l =
    (slot : Slot) → with_slot l.key slot (map deref_pair l.rows) ≡ merged_at l.key slot (map deref_pair l.rows) l.place
