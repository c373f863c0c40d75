use Rattle.std.proofs.Common.{[], ◌∷◌, ◌++◌, codes, refl}
use Rattle.std.proofs.lemmas.Result.{on_ok_weaker}
use Rattle.gr_picture.specs.Elements.{worded, sized}
use Rattle.gr_picture.proofs.Putting.{begun_more, begun_alone, draws_more, draws_feed}
use Rattle.gr_picture.proofs.shapes.put_band.Goals as goal

pub returns : goal.returns
returns c =
    let tag = codes "rect" in
    let size = sized c.args.at.x c.args.at.y c.args.width c.args.height in
    let fill = worded (codes "fill") (codes "#f5f5f5") in
    let b0 = c.in_ok-begin_rectangle.ensures in
    let b1 = begun_more tag _ _ _ size fill b0 c.in_ok-attribute.ensures in
    let drawn = begun_alone tag _ _ _ (size ++ (fill ∷ [])) b1 refl c.in_ok-alone.ensures in
    on_ok_weaker c.feed.result (λ is. draws_more _ _ _ drawn (draws_feed _ _ is)) c.feed.ensures
