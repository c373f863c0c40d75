use Rattle.std.proofs.Common.{[], ◌∷◌, codes}
use Rattle.std.proofs.lemmas.Result.{on_ok_weaker}
use Rattle.gr_picture.specs.Elements.{numbered, worded, svg_space}
use Rattle.gr_picture.proofs.Putting.{begun_first, begun_more}
use Rattle.gr_picture.proofs.frame.begin_frame.Goals as goal

pub returns : goal.returns
returns c =
    let tag = codes "svg" in
    let space = svg_space in
    let width = numbered (codes "width") c.args.width in
    let height = numbered (codes "height") c.args.height in
    let box = worded (codes "viewBox") c.args.all.now in
    let b0 = begun_first tag _ _ c.in_ok-begin.ensures in
    let b1 = begun_more tag _ _ _ [] space b0 c.in_ok-attribute.ensures in
    let b2 = begun_more tag _ _ _ (space ∷ []) width b1 c.in_ok-number.ensures in
    let b3 = begun_more tag _ _ _ (space ∷ width ∷ []) height b2 c.in_ok-number-2.ensures in
    on_ok_weaker c.attribute-2.result (begun_more tag _ _ _ (space ∷ width ∷ height ∷ []) box b3) c.attribute-2.ensures
