use Rattle.std.proofs.Common.{◌≡◌, ◌≤◌, ◌<◌, ℕ, length, get_or}
use Rattle.gr_post.specs.Plan.{number_before}
use Rattle.gr_post.specs.Lanes.{Way, ready_for}
use Rattle.gr_post.proofs.lanes.prepare_each.Given as goal

abbrev pub invariant-loop-place : goal.invariant-loop-place
invariant-loop-place l = record {
  count : length l.lanes.items ≡ length l.initial.lanes.items;
  number : l.after ≡ number_before l.fn.number l.fn.to l.place;
  done : (k : ℕ) (d : Way) → k < l.place → get_or l.lanes.items k d
      ≡ ready_for l.mail l.fn.to l.fn.number k (get_or l.initial.lanes.items k d);
  others : (k : ℕ) (d : Way) → l.place ≤ k → get_or l.lanes.items k d ≡ get_or l.initial.lanes.items k d;
}
