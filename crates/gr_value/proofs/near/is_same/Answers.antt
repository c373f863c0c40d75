use Rattle.std.proofs.Common.{◌∙◌, ◌&&◌, nat_eq, arith}
use Rattle.gr_value.proofs.Alike.{behind, same_is}
use Rattle.gr_value.proofs.near.is_same.Goals as goal

pub returns : goal.returns
returns c =
    (λ i. nat_eq (c.front_of.ensures i) (c.front_of-2.ensures i) && nat_eq (c.front_of-3.ensures i) (c.front_of-4.ensures i))
    ∙ rw (behind c.args.one.now, behind c.args.two.now) (same_is c.args.one.now c.args.two.now (λ i. omega (arith, c.type_inv.one i)) (λ i. omega (arith, c.type_inv.two i)) c.requires.one
    c.requires.two)
