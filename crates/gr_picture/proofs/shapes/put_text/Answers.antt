use Rattle.std.proofs.Common.{[], codes}
use Rattle.std.proofs.lemmas.Result.{on_ok_weaker}
use Rattle.gr_picture.proofs.Putting.{inside_more, inside_closed, draws_more, draws_feed}
use Rattle.gr_picture.proofs.shapes.put_text.Goals as goal

pub returns : goal.returns
returns c =
    let tag = codes "text" in
    let i0 = c.in_ok-begin_text.ensures in
    let i1 = inside_more tag _ _ _ [] i0 c.in_ok-put_shortened.ensures in
    let drawn = inside_closed tag _ _ _ [] i1 c.in_ok-close.ensures in
    on_ok_weaker c.feed.result (λ is. draws_more _ _ _ drawn (draws_feed _ _ is)) c.feed.ensures
