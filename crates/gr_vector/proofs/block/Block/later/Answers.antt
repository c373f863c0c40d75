use Rattle.std.proofs.Common.{◌/◌, ◌^◌, ◌-◌, ◌∙◌, ap, bit_or, arith}
use Rattle.gr_vector.specs.Blocks.{has}
use Rattle.gr_vector.proofs.Bits.{has_later_none, has_later_full}
use Rattle.gr_vector.proofs.block.Block.later.Goals as goal

pub returns-then-self-eq0-clause-has : goal.returns-then-self-eq0-clause-has
returns-then-self-eq0-clause-has c = λ v le.
    ap (λ n. has v (record { first = c.args.first; bits = c.args.self.bits / 2 ^ n })) c.min-gone.ensures
    ∙ has_later_none v c.args.first c.args.self c.requires le c.if-self-eq0.true

pub returns-else-self-eq0-clause-has : goal.returns-else-self-eq0-clause-has
returns-else-self-eq0-clause-has c = λ v le.
    ap (λ n. has v (record { first = c.args.first; bits = bit_or (c.args.self.bits / 2 ^ n) (2 ^ 64 - 1 - (2 ^ 64 - 1) / 2 ^ n) }))
    c.min-gone.ensures
    ∙ has_later_full v c.args.first c.args.self c.requires le (omega arith) c.if-self-eq0.false
