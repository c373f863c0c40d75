use Rattle.std.proofs.Common.{false, ◌∙◌, sym, subst, arith, drop}
use Rattle.gr_vector.specs.Blocks.{AllAbove}
use Rattle.gr_vector.proofs.Places.{told_above, told_count}
use Rattle.gr_vector.proofs.blocks.tells.Goals as goal

pub returns-then-count-eq0 : goal.returns-then-count-eq0
returns-then-count-eq0 c = sym (told_above c.args.number false c.args.blocks.now
    (subst (λ n. AllAbove c.args.number (drop n c.args.blocks.now)) c.if-count-eq0.true c.requires.above))

pub returns : goal.returns
returns c = c.has.ensures ∙ sym (told_count c.args.number c.args.count c.args.blocks.now (record { first = 0; bits = 0 })
    c.requires.within (omega arith) c.requires.above (c.requires.below (omega arith) (record { first = 0; bits = 0 })))
