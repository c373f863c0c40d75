use Rattle.std.proofs.Common.{[], ◌∷◌, ◌++◌, codes}
use Rattle.std.proofs.lemmas.Result.{on_ok_weaker}
use Rattle.gr_picture.specs.Elements.{numbered}
use Rattle.gr_picture.specs.Styles.{style_attributes}
use Rattle.gr_picture.proofs.Putting.{begun_first, begun_more, begun_all, begun_inside, style_fit}
use Rattle.gr_picture.proofs.shapes.begin_text.Goals as goal

pub returns : goal.returns
returns c =
    let tag = codes "text" in
    let x = numbered (codes "x") c.args.at.x in
    let y = numbered (codes "y") c.args.at.y in
    let b0 = begun_first tag _ _ c.in_ok-begin.ensures in
    let b1 = begun_more tag _ _ _ [] x b0 c.in_ok-number.ensures in
    let b2 = begun_more tag _ _ _ (x ∷ []) y b1 c.in_ok-number-2.ensures in
    let more = style_attributes c.args.style in
    let styled = begun_all tag _ _ _ (x ∷ y ∷ []) more b2 c.in_ok-put_style.ensures in
    let fit = style_fit c.args.at.x c.args.at.y c.args.style in
    on_ok_weaker c.inside.result (begun_inside tag _ _ _ [] ((x ∷ y ∷ []) ++ more) styled fit) c.inside.ensures
