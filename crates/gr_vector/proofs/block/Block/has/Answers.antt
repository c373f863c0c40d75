use Rattle.std.proofs.Common.{◌/◌, ◌^◌, ◌∙◌, ap, bit_and, nat_eq}
use Rattle.gr_vector.proofs.Bits.{has_is}
use Rattle.gr_vector.proofs.block.Block.has.Goals as goal

pub returns : goal.returns
returns c = ap (λ n. nat_eq (bit_and (c.args.self.bits / 2 ^ n) 1) 1) c.min-bit.ensures ∙ has_is c.args.number c.args.self
