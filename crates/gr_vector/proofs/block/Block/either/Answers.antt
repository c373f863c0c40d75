use Rattle.std.proofs.Common.{◌≡◌, ◌||◌, Bool, sym, ◌∙◌, ap}
use Rattle.gr_vector.specs.Blocks.{has}
use Rattle.gr_vector.proofs.Bits.{has_either}
use Rattle.gr_vector.proofs.block.Block.either.Goals as goal

joined : {a b c d : Bool} → a ≡ b → c ≡ d → (a || c) ≡ (b || d)
joined p q = cc

pub returns-clause-has : goal.returns-clause-has
returns-clause-has c = λ v le.
    has_either v c.args.first c.later-one.result.bits c.later-two.result.bits
    ∙ joined
    (ap (λ n. has v (record { first = n; bits = c.later-one.result.bits })) (sym c.later-one.ensures.first) ∙ c.later-one.ensures.has v le)
    (ap (λ n. has v (record { first = n; bits = c.later-two.result.bits })) (sym c.later-two.ensures.first) ∙ c.later-two.ensures.has v le)
