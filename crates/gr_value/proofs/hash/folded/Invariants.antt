use Rattle.std.proofs.Common.{◌≡◌}
use Rattle.gr_value.specs.KeyHash.{folded}
use Rattle.gr_value.proofs.hash.folded.Given as goal

abbrev pub invariant-loop-eight : goal.invariant-loop-eight
invariant-loop-eight l = l.sum ≡ folded l.eight l.bytes
