use Rattle.std.proofs.Common.{◌≡◌, ◌≤◌, ◌-◌, ℕ, true}
use Rattle.gr_vector.specs.Blocks.{is_noted}
use Rattle.gr_vector.proofs.blocks.held_upto.Given as goal

abbrev pub invariant-loop-upto : goal.invariant-loop-upto
invariant-loop-upto l = record {
  within : l.upto ≤ l.top;
  front : (v : ℕ) → 1 ≤ v → v ≤ l.upto → is_noted v l.blocks ≡ true;
}

abbrev pub decreases-loop-upto : goal.decreases-loop-upto
decreases-loop-upto l = l.top - l.upto
