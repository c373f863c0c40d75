use Rattle.std.proofs.Common.{◌≡◌, ◌≤◌, ◌<◌, ◌-◌}
use Rattle.gr_vector.specs.Blocks.{is_noted, ends_upto}
use Rattle.gr_vector.proofs.blocks.gaps_upto.Given as goal

abbrev pub invariant-loop-number : goal.invariant-loop-number
invariant-loop-number l = record {
  some : 1 ≤ l.number;
  few : l.gaps < l.number;
  counted : l.gaps ≡ ends_upto (l.number - 1) (λ v. is_noted v l.blocks);
}

abbrev pub decreases-loop-number : goal.decreases-loop-number
decreases-loop-number l = l.top - l.number
