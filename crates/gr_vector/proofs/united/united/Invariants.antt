use Rattle.std.proofs.Common.{◌≡◌, ◌≤◌, ◌<◌, ◌+◌, ◌-◌, ◌||◌, ℕ, length, drop}
use Rattle.gr_vector.specs.Blocks.{has, told, is_noted, AreAscending, last_first}
use Rattle.gr_vector.proofs.united.united.Given as goal

abbrev pub invariant-loop-our : goal.invariant-loop-our
invariant-loop-our l = record {
  our : l.our ≤ length l.ours;
  their : l.their ≤ length l.theirs;
  ours : AreAscending l.first (drop l.our l.ours);
  theirs : AreAscending l.first (drop l.their l.theirs);
  one : l.one.first ≤ l.first;
  two : l.two.first ≤ l.first;
  our_told : (v : ℕ) → l.first ≤ v → told v (has v l.one) (drop l.our l.ours) ≡ is_noted v l.ours;
  their_told : (v : ℕ) → l.first ≤ v → told v (has v l.two) (drop l.their l.theirs) ≡ is_noted v l.theirs;
  ascending : AreAscending 0 l.both.items;
  last : last_first 0 l.both.items ≤ l.first;
  below : (v : ℕ) → v < l.first → is_noted v l.both.items ≡ (is_noted v l.ours || is_noted v l.theirs);
  above : (v : ℕ) → l.first ≤ v → is_noted v l.both.items ≡ (has v l.one || has v l.two);
}

abbrev pub decreases-loop-our : goal.decreases-loop-our
decreases-loop-our l = (length l.initial.ours - l.our) + (length l.initial.theirs - l.their)
