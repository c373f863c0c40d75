use Rattle.std.proofs.Common.{◌≡◌, ℕ, length, take, ◌||◌}
use Rattle.gr_vector.specs.Views.{is_held}
use Rattle.gr_vector.proofs.vector.unite_each.Given as goal

abbrev pub invariant-loop-place : goal.invariant-loop-place
invariant-loop-place l = record {
  count : length l.both.items ≡ l.place;
  held : (k v : ℕ) → is_held k v l.both.items ≡ (is_held k v (take l.place l.ours) || is_held k v (take l.place l.theirs));
}
