use Rattle.gr_vector.proofs.Bits.{has_with}
use Rattle.gr_vector.proofs.block.Block.with.Goals as goal

pub returns-clause-has : goal.returns-clause-has
returns-clause-has c = λ v le. has_with v c.args.number c.args.self le c.requires.ahead c.requires.own
