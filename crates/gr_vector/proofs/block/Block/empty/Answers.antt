use Rattle.gr_vector.proofs.Bits.{has_none}
use Rattle.gr_vector.proofs.block.Block.empty.Goals as goal

pub returns-clause-has : goal.returns-clause-has
returns-clause-has c = λ v. has_none v c.args.first
