use Rattle.std.proofs.Common.{◌≡◌, ◌<◌, ◌+◌, ◌∙◌, false, ap, subst, arith}
use Rattle.gr_vector.specs.Blocks.{has}
use Rattle.gr_vector.proofs.Edits.{ascending_set, told_filled, next_begins}
use Rattle.gr_vector.proofs.blocks.fill.Goals as goal

pub returns-then-saturating_sub-eq-OWN-clause-ascending :
    goal.returns-then-saturating_sub-eq-OWN-clause-ascending
returns-then-saturating_sub-eq-OWN-clause-ascending c =
    ascending_set 0 c.args.place c.args.blocks.now.items c.filled.result c.index-block.result.now c.requires.within
    (c.filled.ensures.first ∙ ap (λ b. b.first) c.index-block.ensures) c.requires.ascending

pub returns-then-saturating_sub-eq-OWN-clause-noted :
    goal.returns-then-saturating_sub-eq-OWN-clause-noted
returns-then-saturating_sub-eq-OWN-clause-noted c = λ v.
    told_filled v false c.args.place c.args.blocks.now.items c.filled.result c.index-block.result.now
    (omega (arith, c.if-next-len.true, c.args.blocks.now.ok))
    (c.filled.ensures.first ∙ ap (λ b. b.first) c.index-block.ensures)
    (next_begins c.args.place c.args.blocks.now.items c.index-block.result.now c.index.result.now c.index-block.ensures c.index.ensures
    (omega (arith, c.if-next-len.true, c.args.blocks.now.ok)) (omega (arith, c.saturating_sub.ensures, c.if-saturating_sub-eq-OWN.true)))
    (subst (λ b. v < b.first + 63 → has v c.filled.result ≡ has v b) c.index-block.ensures (c.filled.ensures.has v))
