use Rattle.std.proofs.Common.{◌≡◌, ℕ, false, length}
use Rattle.gr_vector.specs.Views.{is_held}
use Rattle.gr_vector.proofs.vector.new_members.Given as goal

abbrev pub invariant-loop : goal.invariant-loop
invariant-loop l = record {
  count : length l.members.items ≡ l.counter;
  none : (k v : ℕ) → is_held k v l.members.items ≡ false;
}
