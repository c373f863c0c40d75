use Rattle.std.proofs.Common.{[], ◌∷◌, codes, refl}
use Rattle.std.proofs.lemmas.Result.{on_ok_weaker}
use Rattle.gr_picture.specs.Elements.{worded}
use Rattle.gr_picture.proofs.Putting.{begun_first, begun_more, begun_alone}
use Rattle.gr_picture.proofs.frame.put_tip.Goals as goal

pub returns : goal.returns
returns c =
    let tag = codes "path" in
    let way = worded (codes "d") (codes "M0 0 L10 5 L0 10 z") in
    let fill = worded (codes "fill") (codes "#555") in
    let b0 = begun_first tag _ _ c.in_ok-begin.ensures in
    let b1 = begun_more tag _ _ _ [] way b0 c.in_ok-attribute.ensures in
    let b2 = begun_more tag _ _ _ (way ∷ []) fill b1 c.in_ok-attribute-2.ensures in
    on_ok_weaker c.alone.result (begun_alone tag _ _ _ (way ∷ fill ∷ []) b2 refl) c.alone.ensures
