use Rattle.std.proofs.Common.{length}
use Rattle.gr_value.proofs.KeyFronts.{IsLeft}
use Rattle.gr_value.proofs.key.cmp_by_eights.Given as goal

abbrev pub invariant-eights : goal.invariant-eights
invariant-eights l = IsLeft l.fn.one l.fn.two l.left l.right

abbrev pub decreases-eights : goal.decreases-eights
decreases-eights l = length l.left
