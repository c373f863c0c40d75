use Rattle.std.proofs.Common.{[], codes, refl}
use Rattle.std.proofs.lemmas.Result.{on_ok_weaker}
use Rattle.gr_picture.proofs.Putting.{begun_first, begun_inside, inside_more, inside_closed, draws_more, draws_feed}
use Rattle.gr_picture.proofs.frame.put_definitions.Goals as goal

pub returns : goal.returns
returns c =
    let tag = codes "defs" in
    let b0 = begun_first tag _ _ c.in_ok-begin.ensures in
    let i0 = begun_inside tag _ _ _ [] [] b0 refl c.in_ok-inside.ensures in
    let i1 = inside_more tag _ _ _ [] i0 c.in_ok-put_marker.ensures in
    let drawn = inside_closed tag _ _ _ [] i1 c.in_ok-close.ensures in
    on_ok_weaker c.feed.result (λ is. draws_more _ _ _ drawn (draws_feed _ _ is)) c.feed.ensures
