use Rattle.std.proofs.Common.{[], ◌∷◌, codes}
use Rattle.std.proofs.lemmas.Result.{on_ok_weaker}
use Rattle.gr_picture.specs.Elements.{numbered}
use Rattle.gr_picture.proofs.Putting.{begun_first, begun_more}
use Rattle.gr_picture.proofs.shapes.begin_rectangle.Goals as goal

pub returns : goal.returns
returns c =
    let tag = codes "rect" in
    let x = numbered (codes "x") c.args.at.x in
    let y = numbered (codes "y") c.args.at.y in
    let width = numbered (codes "width") c.args.width in
    let height = numbered (codes "height") c.args.height in
    let b0 = begun_first tag _ _ c.in_ok-begin.ensures in
    let b1 = begun_more tag _ _ _ [] x b0 c.in_ok-number.ensures in
    let b2 = begun_more tag _ _ _ (x ∷ []) y b1 c.in_ok-number-2.ensures in
    let b3 = begun_more tag _ _ _ (x ∷ y ∷ []) width b2 c.in_ok-number-3.ensures in
    on_ok_weaker c.number-4.result (begun_more tag _ _ _ (x ∷ y ∷ width ∷ []) height b3) c.number-4.ensures
