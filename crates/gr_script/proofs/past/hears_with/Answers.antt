use Rattle.std.proofs.Common.{◌∙◌, ℕ, ◌+◌, ap, arith}
use Rattle.gr_script.specs.declared.past.Counted.{Counted}
use Rattle.gr_script.specs.Past.{heard_on}
use Rattle.gr_script.proofs.Gone.{hears_few}
use Rattle.gr_script.proofs.past.hears_with.Goals as goal

pub overflow_add-result : goal.overflow_add-result
overflow_add-result c =
    let few = c.requires.2 in
    let said = hears_few c.requires.0 (omega (arith, few)) in
    let same = ap (λ (k : Counted). k.hears) c.requires.1 in
    omega (arith, few, said, same, c.heard_on.ensures.within)

pub returns : goal.returns
returns c past same =
    ap (λ (n : ℕ). n + c.args.counts.hears) (c.heard_on.ensures.exact past (ap (λ (k : Counted). k.departs) same))
    ∙ ap (λ (k : Counted). heard_on past c.args.kind + k.hears) same
