use Rattle.std.proofs.Common.{}
use Rattle.std.proofs.lemmas.Result.{on_ok_weaker}
use Rattle.gr_picture.proofs.Putting.{draws_more, draws_words}
use Rattle.gr_picture.proofs.shapes.put_shortened.Goals as goal

pub returns : goal.returns
returns c =
    let front = draws_words _ _ _ c.in_ok-words.ensures in
    on_ok_weaker c.words-2.result (λ is. draws_more _ _ _ front (draws_words _ _ _ is)) c.words-2.ensures
