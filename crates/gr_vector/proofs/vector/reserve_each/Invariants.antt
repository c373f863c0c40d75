use Rattle.std.proofs.Common.{◌≡◌, ◌≤◌, ◌<◌, ℕ, get_or}
use Rattle.gr_vector.specs.Blocks.{Numbers}
use Rattle.gr_vector.specs.Views.{is_held}
use Rattle.gr_vector.proofs.vector.reserve_each.Given as goal

abbrev pub invariant-loop-numbers : goal.invariant-loop-numbers
invariant-loop-numbers l = record {
  held : (k v : ℕ) → is_held k v l.members ≡ is_held k v l.initial.members;
  kept : (k : ℕ) (d : Numbers) → (get_or l.initial.members k d).spare ≤ (get_or l.members k d).spare;
  room : (k : ℕ) (d : Numbers) → k < l.numbers-index → 1 ≤ (get_or l.members k d).spare;
}
