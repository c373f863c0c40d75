use Rattle.std.proofs.Common.{◌≡◌, ℕ, length, take}
use Rattle.gr_vector.specs.Views.{is_held}
use Rattle.gr_vector.proofs.vector.copy_each.Given as goal

abbrev pub invariant-loop-numbers : goal.invariant-loop-numbers
invariant-loop-numbers l = record {
  count : length l.copies.items ≡ l.numbers-index;
  held : (k v : ℕ) → is_held k v l.copies.items ≡ is_held k v (take l.numbers-index l.members);
}
