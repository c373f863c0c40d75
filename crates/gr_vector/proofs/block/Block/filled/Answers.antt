use Rattle.gr_vector.proofs.Bits.{has_filled}
use Rattle.gr_vector.proofs.block.Block.filled.Goals as goal

pub returns-clause-has : goal.returns-clause-has
returns-clause-has c = λ v lt. has_filled v c.args.self lt
