use Rattle.std.proofs.Common.{◌≡◌, ◌≤◌, ◌-◌, ◌∙◌, ap, sym, subst, arith}
use Rattle.gr_vector.specs.Blocks.{has, is_noted, AreAscending, last_first}
use Rattle.gr_vector.proofs.Walk.{told_kept, told_pushed, ascending_pushed, last_pushed}
use Rattle.gr_vector.proofs.united.push.Goals as goal

pub returns-then-says-clause-noted : goal.returns-then-says-clause-noted
returns-then-says-clause-noted c = λ v.
    told_kept v (c.len-length.result - 1) c.args.blocks.now.items c.args.block c.index.result.now
    (omega (arith, c.args.blocks.now.ok, c.if-length-gt0.true))
    (subst (λ x. x.first ≤ c.args.block.first) c.index.ensures c.if-says.ensures.0)
    (λ le. subst (λ x. has v c.args.block ≡ has v x) c.index.ensures (c.if-says.ensures.1 v le))

pub returns-clause-ascending : goal.returns-clause-ascending
returns-clause-ascending c =
    subst (λ xs. AreAscending 0 xs) (sym c.in_ok-push.ensures.items)
    (ascending_pushed c.args.blocks.now.items c.args.block c.requires.ascending c.requires.last)

pub returns-clause-last : goal.returns-clause-last
returns-clause-last c =
    subst (λ xs. last_first 0 xs ≤ c.args.block.first) (sym c.in_ok-push.ensures.items) (last_pushed c.args.blocks.now.items c.args.block)

pub returns-clause-noted : goal.returns-clause-noted
returns-clause-noted c = λ v.
    ap (is_noted v) c.in_ok-push.ensures.items ∙ told_pushed v c.args.blocks.now.items c.args.block
