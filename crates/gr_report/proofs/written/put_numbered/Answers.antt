use Rattle.std.proofs.Common.{◌≡◌, ◌∙◌, ◌<◌, ◌≤◌, ◌+◌, ap, sym, ℕ, List, [], ◌∷◌, ◌++◌, length, take, append_assoc, arith}
use Rattle.std.proofs.Common.{length-take-le}
use Rattle.std.proofs.lemmas.List.{take_more}
use Rattle.gr_report.specs.Texts.{texts_from}
use Rattle.gr_report.proofs.Lines.{texts_from-push}
use Rattle.gr_report.proofs.written.put_numbered.Goals as goal

pub loop-place-preserved : goal.loop-place-preserved
loop-place-preserved g c =
    let all = c.args.items.now in
    let text = g.T.Numbered.text c.args.owner in
    let place = c.loop-place.place in
    let item = c.index-items-place.result in
    let before : List ℕ = c.args.out.now.items in
    let within : place < length all = c.loop-place-test.true in
    let within-le : place ≤ length all = omega arith in
    let longer : take (place + 1) all ≡ take place all ++ item ∷ [] =
    take_more all place item within ∙ ap (λ x. take place all ++ x ∷ []) (sym c.index-items-place.is) in
    let numbered : c.args.first + length (take place all) ≡ place + c.args.first = omega (arith, length-take-le place all within-le) in
    c.in_ok-put.ensures
    ∙ ap (λ out. out ++ text (place + c.args.first) item) c.loop-place.invariant
    ∙ append_assoc before (texts_from text c.args.first (take place all)) (text (place + c.args.first) item)
    ∙ ap (λ lines. before ++ lines)
    (sym (ap (texts_from text c.args.first) longer ∙ texts_from-push text c.args.first (take place all) item
    ∙ ap (λ n. texts_from text c.args.first (take place all) ++ text n item) numbered))
