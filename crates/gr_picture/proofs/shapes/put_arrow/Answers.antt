use Rattle.std.proofs.Common.{[], ◌∷◌, codes, refl}
use Rattle.std.proofs.lemmas.Result.{on_ok_weaker}
use Rattle.gr_picture.specs.Elements.{worded}
use Rattle.gr_picture.proofs.Putting.{begun_first, begun_more, begun_alone, draws_more, draws_feed}
use Rattle.gr_picture.proofs.shapes.put_arrow.Goals as goal

pub returns : goal.returns
returns c =
    let tag = codes "path" in
    let way = worded (codes "d") c.as_str.result.now in
    let fill = worded (codes "fill") (codes "none") in
    let stroke = worded (codes "stroke") (codes "#555") in
    let stroke_width = worded (codes "stroke-width") (codes "1.3") in
    let marker_end = worded (codes "marker-end") (codes "url(#tip)") in
    let b0 = begun_first tag _ _ c.in_ok-begin.ensures in
    let b1 = begun_more tag _ _ _ [] way b0 c.in_ok-attribute.ensures in
    let b2 = begun_more tag _ _ _ (way ∷ []) fill b1 c.in_ok-attribute-2.ensures in
    let b3 = begun_more tag _ _ _ (way ∷ fill ∷ []) stroke b2 c.in_ok-attribute-3.ensures in
    let b4 = begun_more tag _ _ _ (way ∷ fill ∷ stroke ∷ []) stroke_width b3 c.in_ok-attribute-4.ensures in
    let b5 = begun_more tag _ _ _ (way ∷ fill ∷ stroke ∷ stroke_width ∷ []) marker_end b4 c.in_ok-attribute-5.ensures in
    let drawn = begun_alone tag _ _ _ (way ∷ fill ∷ stroke ∷ stroke_width ∷ marker_end ∷ []) b5 refl c.in_ok-alone.ensures in
    on_ok_weaker c.feed.result (λ is. draws_more _ _ _ drawn (draws_feed _ _ is)) c.feed.ensures
