use Rattle.std.proofs.Common.{◌∙◌, ap, ℕ, List, ◌++◌, length, append_assoc}
use Rattle.std.specs.Prelude.{codes}
use Rattle.std.proofs.lemmas.Result.{on_ok_weaker}
use Rattle.gr_report.specs.Own.{sum_text, own_line}
use Rattle.gr_report.specs.Regions.{counted}
use Rattle.gr_report.proofs.own.put_own_line.Goals as goal

pub returns : goal.returns
unfolding own_line
returns c =
    let before : List ℕ = c.args.out.now.items in
    let entries : List ℕ = counted (codes "own entries ") (length c.args.numbers.now) in
    let sum : List ℕ = sum_text c.args.numbers.now in
    on_ok_weaker c.put_text.result
    (λ e. e
    ∙ ap (λ out. out ++ codes "\n")
    (c.in_ok-put_sum.ensures ∙ ap (λ out. out ++ sum) c.in_ok-put_counted.ensures ∙ append_assoc before entries sum)
    ∙ append_assoc before (entries ++ sum) (codes "\n"))
    c.put_text.ensures
