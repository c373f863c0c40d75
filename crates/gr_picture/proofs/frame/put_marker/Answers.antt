use Rattle.std.proofs.Common.{[], ◌∷◌, ◌++◌, codes, refl}
use Rattle.std.proofs.lemmas.Result.{on_ok_weaker}
use Rattle.gr_picture.specs.Elements.{worded, marker_attributes}
use Rattle.gr_picture.proofs.Putting.{begun_more, begun_inside, inside_more, inside_closed}
use Rattle.gr_picture.proofs.frame.put_marker.Goals as goal

pub returns : goal.returns
returns c =
    let tag = codes "marker" in
    let turned = worded (codes "orient") (codes "auto") in
    let b1 = begun_more tag _ _ _ marker_attributes turned c.in_ok-begin_marker.ensures c.in_ok-attribute.ensures in
    let i0 = begun_inside tag _ _ _ [] (marker_attributes ++ (turned ∷ [])) b1 refl c.in_ok-inside.ensures in
    let i1 = inside_more tag _ _ _ [] i0 c.in_ok-put_tip.ensures in
    on_ok_weaker c.close.result (inside_closed tag _ _ _ [] i1) c.close.ensures
