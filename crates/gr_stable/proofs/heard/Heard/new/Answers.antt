use Rattle.std.proofs.Common.{◌≡◌, ◌∙◌, ap, length, None, replicate, arith}
use Rattle.gr_stable.proofs.Placing.{no_reports}
use Rattle.gr_stable.proofs.heard.Heard.new.Goals as goal

pub invariant_of-result : goal.invariant_of-result
invariant_of-result c =
    let all : c.loop.counter ≡ 8 = omega (arith, c.loop-test.false, c.loop.auto.counter-end) in
    ap length (c.loop.invariant ∙ ap (λ n. replicate n None) all)

pub returns : goal.returns
returns c =
    let all : c.loop.counter ≡ 8 = omega (arith, c.loop-test.false, c.loop.auto.counter-end) in
    c.loop.invariant ∙ ap (λ n. replicate n None) all ∙ no_reports
