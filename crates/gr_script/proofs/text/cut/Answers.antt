use Rattle.std.proofs.Common.{◌∙◌, ◌+◌, List, ℕ, take, None, Some, sym, ap, add-one}
use Rattle.gr_script.proofs.Texts.{cut_at, all_behind}
use Rattle.gr_script.proofs.text.cut.Goals as goal

pub returns-in_err-place-clause-parts : goal.returns-in_err-place-clause-parts
returns-in_err-place-clause-parts c =
    rw c.from_residual.ensures (cut_at c.args.mark c.args.bytes.now None (sym c.in_err-place.was ∙ c.place_of.ensures.place))

pub returns-clause-parts : goal.returns-clause-parts
returns-clause-parts c =
    let place = c.in_ok-place.place in
    let bytes = c.args.bytes.now in
    ap (λ (rest : List ℕ). Some (take place bytes, rest)) (all_behind bytes place (place + 1) (add-one place))
    ∙ cut_at c.args.mark bytes (Some place) (sym c.in_ok-place.was ∙ c.place_of.ensures.place)
