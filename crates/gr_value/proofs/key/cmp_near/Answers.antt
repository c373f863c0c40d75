use Rattle.std.proofs.Common.{◌≡◌, ◌∙◌, sym, nat_cmp}
use Rattle.gr_value.specs.KeyFront.{front_of}
use Rattle.gr_value.proofs.KeyFronts.{fronts_order, backs_order}
use Rattle.gr_value.proofs.Keys.{key_bytes}
use Rattle.gr_value.proofs.key.cmp_near.Goals as goal

pub returns-then-front-other : goal.returns-then-front-other
returns-then-front-other c =
    c.cmp.ensures
    ∙ (λ i. nat_cmp (c.back.ensures.back i) (c.back-then-front-other.ensures.back i))
    ∙ sym (backs_order c.args.one.now c.args.two.now (key_bytes c.args.one.now c.requires.one)
    (key_bytes c.args.two.now c.requires.two) c.back.ensures.few c.back-then-front-other.ensures.few
    (sym c.front-front.ensures ∙ c.if-front-other.true ∙ c.front-other.ensures))

pub returns-else-front-other : goal.returns-else-front-other
returns-else-front-other c =
    c.cmp-else-front-other.ensures
    ∙ (λ i. nat_cmp (c.front-front.ensures i) (c.front-other.ensures i))
    ∙ sym (fronts_order 8 c.args.one.now c.args.two.now (key_bytes c.args.one.now c.requires.one)
    (key_bytes c.args.two.now c.requires.two)
    (λ (e : front_of c.args.one.now ≡ front_of c.args.two.now).
    c.if-front-other.false (c.front-front.ensures ∙ e ∙ sym c.front-other.ensures)))
