use Rattle.std.proofs.Common.{[], ◌∷◌, codes, refl}
use Rattle.std.proofs.lemmas.Result.{on_ok_weaker}
use Rattle.gr_picture.specs.Elements.{worded}
use Rattle.gr_picture.proofs.Putting.{begun_first, begun_more, begun_alone, draws_more, draws_feed}
use Rattle.gr_picture.proofs.frame.put_ground.Goals as goal

pub returns : goal.returns
returns c =
    let tag = codes "rect" in
    let width = worded (codes "width") (codes "100%") in
    let height = worded (codes "height") (codes "100%") in
    let fill = worded (codes "fill") (codes "#fff") in
    let b0 = begun_first tag _ _ c.in_ok-begin.ensures in
    let b1 = begun_more tag _ _ _ [] width b0 c.in_ok-attribute.ensures in
    let b2 = begun_more tag _ _ _ (width ∷ []) height b1 c.in_ok-attribute-2.ensures in
    let b3 = begun_more tag _ _ _ (width ∷ height ∷ []) fill b2 c.in_ok-attribute-3.ensures in
    let drawn = begun_alone tag _ _ _ (width ∷ height ∷ fill ∷ []) b3 refl c.in_ok-alone.ensures in
    on_ok_weaker c.feed.result (λ is. draws_more _ _ _ drawn (draws_feed _ _ is)) c.feed.ensures
