use Rattle.std.proofs.Common.{}
use Rattle.std.proofs.lemmas.Result.{on_ok_weaker}
use Rattle.gr_picture.proofs.Putting.{draws_more}
use Rattle.gr_picture.proofs.shapes.put_words.Goals as goal

pub returns : goal.returns
returns c = on_ok_weaker c.put_note-2.result (draws_more _ _ _ c.in_ok-put_note.ensures) c.put_note-2.ensures
