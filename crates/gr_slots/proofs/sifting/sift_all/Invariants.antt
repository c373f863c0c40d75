use Rattle.std.proofs.Common.{◌≡◌, ℕ, List, None}
use Rattle.std.specs.Prelude.{take}
use Rattle.std.specs.Ordering.{nat_cmp}
use Rattle.std.specs.Cmp.Lexicographic.{slice_cmp}
use Rattle.std.specs.BTreeSet.{contains, IsOrdered}
use Rattle.gr_slots.specs.Slots.{slot_at}
use Rattle.gr_slots.specs.Removals.{is_removed_among, AreIndexed}
use Rattle.gr_slots.proofs.sifting.sift_all.Given as goal

abbrev pub invariant-loop-at : goal.invariant-loop-at
invariant-loop-at l = record {
  indexed : AreIndexed None l.cells l.removals;
  found : (q : List ℕ) → contains (slice_cmp nat_cmp) l.found q ≡ is_removed_among (take l.at-index l.moments) (slot_at q l.cells);
  ordered : IsOrdered (slice_cmp nat_cmp) l.found;
}
