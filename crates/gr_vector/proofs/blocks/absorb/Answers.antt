use Rattle.std.proofs.Common.{◌∙◌, ap, sym, subst, arith}
use Rattle.gr_vector.specs.Blocks.{is_noted, AreAscending}
use Rattle.gr_vector.proofs.Edits.{ascending_remove, absorbed_at}
use Rattle.gr_vector.proofs.blocks.absorb.Goals as goal

pub returns-then-says-clause-ascending : goal.returns-then-says-clause-ascending
returns-then-says-clause-ascending c =
    subst (λ xs. AreAscending 0 xs) (sym c.remove.ensures.items) (ascending_remove 0 c.args.place c.args.blocks.now.items c.requires)

pub returns-then-says-clause-noted : goal.returns-then-says-clause-noted
returns-then-says-clause-noted c = λ v.
    ap (is_noted v) c.remove.ensures.items
    ∙ absorbed_at v c.args.place c.args.blocks.now.items c.index.result.now c.index-then-place-len.result.now c.if-place-gt0.true
    (omega (arith, c.if-place-len.true, c.args.blocks.now.ok)) c.index.ensures c.index-then-place-len.ensures
    c.if-says.ensures.0 c.if-says.ensures.1
