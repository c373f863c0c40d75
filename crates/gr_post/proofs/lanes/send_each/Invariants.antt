use Rattle.std.proofs.Common.{◌≡◌, ◌≤◌, ◌<◌, ℕ, true, false, [], length, get_or}
use Rattle.gr_post.specs.Lanes.{Way, Moves, is_none}
use Rattle.gr_post.proofs.lanes.send_each.Given as goal
use Rattle.gr_value.specs.Counts.{Rose}

abbrev pub invariant-loop-place : goal.invariant-loop-place
invariant-loop-place g l = record {
  count : length l.lanes.items ≡ length l.initial.lanes.items;
  done : (k : ℕ) (d : Way) → k < l.place → Moves (get_or l.initial.lanes.items k d) (get_or l.lanes.items k d);
  others : (k : ℕ) (d : Way) → l.place ≤ k → get_or l.lanes.items k d ≡ get_or l.initial.lanes.items k d;
  tried : (k : ℕ) (d : Way) → k < l.place → is_none (get_or l.lanes.items k d).waiting ≡ false
      → Rose (get_or l.initial.lanes.items k d).pass.refused (get_or l.lanes.items k d).pass.refused;
  none : l.all ≡ true → (k : ℕ) (d : Way) → k < l.place → (get_or l.lanes.items k d).waiting ≡ [];
  some : l.all ≡ false → (k : ℕ) × (k < l.place) × ((d : Way) → (is_none (get_or l.lanes.items k d).waiting ≡ false)
      × Rose (get_or l.initial.lanes.items k d).pass.refused (get_or l.lanes.items k d).pass.refused);
}
