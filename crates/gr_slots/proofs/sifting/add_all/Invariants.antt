use Rattle.std.proofs.Common.{◌≡◌, ℕ, List, ◌||◌}
use Rattle.std.specs.Prelude.{take}
use Rattle.std.specs.Ordering.{nat_cmp}
use Rattle.std.specs.Cmp.Lexicographic.{slice_cmp}
use Rattle.std.specs.BTreeSet.{contains, IsOrdered}
use Rattle.gr_slots.specs.Removals.{is_listed}
use Rattle.gr_slots.proofs.sifting.add_all.Given as goal

abbrev pub invariant-loop-key : goal.invariant-loop-key
invariant-loop-key l = record {
  found : (q : List ℕ) → contains (slice_cmp nat_cmp) l.found q
      ≡ (contains (slice_cmp nat_cmp) l.fn.found q || is_listed q (take l.key-index l.keys));
  ordered : IsOrdered (slice_cmp nat_cmp) l.fn.found → IsOrdered (slice_cmp nat_cmp) l.found;
}
