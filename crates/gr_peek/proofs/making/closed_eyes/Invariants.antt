use Rattle.std.proofs.Common.{◌≡◌, length}
use Rattle.std.specs.Prelude.{All, false}
use Rattle.gr_peek.specs.Entering.{new_eye}
use Rattle.gr_peek.proofs.making.closed_eyes.Given as goal

abbrev pub invariant-loop-k : goal.invariant-loop-k
invariant-loop-k l = (length l.list ≡ l._k) × All (λ eye. eye ≡ new_eye false l.fn.told.copy) l.list
