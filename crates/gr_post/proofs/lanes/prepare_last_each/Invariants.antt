use Rattle.std.proofs.Common.{◌≡◌, ◌≤◌, ◌<◌, ℕ, Some, length, get_or}
use Rattle.gr_post.specs.declared.fate.Fate.TheVariants.{Last}
use Rattle.gr_post.specs.Lanes.{Way, ready_with}
use Rattle.gr_post.proofs.lanes.prepare_last_each.Given as goal

abbrev pub invariant-loop-place : goal.invariant-loop-place
invariant-loop-place l = record {
  count : length l.lanes.items ≡ length l.initial.lanes.items;
  done : (k : ℕ) (d : Way) → k < l.place → get_or l.lanes.items k d ≡ ready_with (Some Last) (get_or l.initial.lanes.items k d);
  others : (k : ℕ) (d : Way) → l.place ≤ k → get_or l.lanes.items k d ≡ get_or l.initial.lanes.items k d;
}
