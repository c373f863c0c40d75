use Rattle.std.proofs.Common.{◌≡◌, ◌≤◌, ◌<◌, ℕ, length, get_or}
use Rattle.gr_post.specs.Lanes.{Way, stopped}
use Rattle.gr_post.proofs.lanes.stop_each.Given as goal

abbrev pub invariant-loop-place : goal.invariant-loop-place
invariant-loop-place l = record {
  count : length l.lanes.items ≡ length l.initial.lanes.items;
  done : (k : ℕ) (d : Way) → k < l.place → get_or l.lanes.items k d ≡ stopped (get_or l.initial.lanes.items k d);
  others : (k : ℕ) (d : Way) → l.place ≤ k → get_or l.lanes.items k d ≡ get_or l.initial.lanes.items k d;
}
