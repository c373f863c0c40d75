use Rattle.std.proofs.Common.{[], ◌∷◌, codes}
use Rattle.std.proofs.lemmas.Result.{on_ok_weaker}
use Rattle.gr_picture.specs.Elements.{worded}
use Rattle.gr_picture.proofs.Putting.{begun_first, begun_more}
use Rattle.gr_picture.proofs.frame.begin_marker.Goals as goal

pub returns : goal.returns
returns c =
    let tag = codes "marker" in
    let name = worded (codes "id") (codes "tip") in
    let box = worded (codes "viewBox") (codes "0 0 10 10") in
    let x = worded (codes "refX") (codes "9") in
    let y = worded (codes "refY") (codes "5") in
    let width = worded (codes "markerWidth") (codes "7") in
    let height = worded (codes "markerHeight") (codes "7") in
    let b0 = begun_first tag _ _ c.in_ok-begin.ensures in
    let b1 = begun_more tag _ _ _ [] name b0 c.in_ok-attribute.ensures in
    let b2 = begun_more tag _ _ _ (name ∷ []) box b1 c.in_ok-attribute-2.ensures in
    let b3 = begun_more tag _ _ _ (name ∷ box ∷ []) x b2 c.in_ok-attribute-3.ensures in
    let b4 = begun_more tag _ _ _ (name ∷ box ∷ x ∷ []) y b3 c.in_ok-attribute-4.ensures in
    let b5 = begun_more tag _ _ _ (name ∷ box ∷ x ∷ y ∷ []) width b4 c.in_ok-attribute-5.ensures in
    on_ok_weaker c.attribute-6.result (begun_more tag _ _ _ (name ∷ box ∷ x ∷ y ∷ width ∷ []) height b5) c.attribute-6.ensures
