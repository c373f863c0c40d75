use Rattle.std.proofs.Common.{◌≡◌, ◌∙◌, sym, refl, nat_cmp}
use Rattle.gr_value.specs.KeyFront.{front_of}
use Rattle.gr_value.proofs.KeyFronts.{fronts_order, eight_left}
use Rattle.gr_value.proofs.Keys.{key_bytes}
use Rattle.gr_value.proofs.key.cmp_by_eights.Goals as goal

pub eights-init : goal.eights-init
eights-init c = record {
  left_bytes = key_bytes c.args.one.now c.requires.one;
  right_bytes = key_bytes c.args.two.now c.requires.two;
  order = refl;
}

pub eights-preserved : goal.eights-preserved
eights-preserved c =
    eight_left _ _ _ _ c.eights.invariant (sym c.front_of-front.ensures ∙ c.if-front-other.false ∙ c.front_of-other.ensures)

pub returns-then-front-other : goal.returns-then-front-other
returns-then-front-other c =
    let left = c.eights.left.now in
    let right = c.eights.right.now in
    c.cmp.ensures
    ∙ (λ i. nat_cmp (c.front_of-front.ensures i) (c.front_of-other.ensures i))
    ∙ sym (fronts_order 8 left right c.eights.invariant.left_bytes c.eights.invariant.right_bytes
    (λ (e : front_of left ≡ front_of right).
    c.if-front-other.true (c.front_of-front.ensures ∙ e ∙ sym c.front_of-other.ensures)))
    ∙ sym c.eights.invariant.order
