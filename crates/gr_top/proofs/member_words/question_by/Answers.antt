use Rattle.std.proofs.Common.{ap, subst, sym, Err}
use Rattle.gr_oql.specs.Questions.{question_of}
use Rattle.gr_top.specs.Words.{Understands, question_by}
use Rattle.gr_top.proofs.Asked.{unread_where}
use Rattle.gr_top.proofs.member_words.question_by.Goals as goal

pub returns-in-Ok : goal.returns-in-Ok
returns-in-Ok c =
    ap question_by (c.texts_ask_by_the_grammar.ensures.only c.args.text.now c.in-Ok.query c.in-Ok.ensures.spelled)

pub returns-in-Err : goal.returns-in-Err
returns-in-Err c =
    subst (λ why. Understands (question_by (question_of c.args.text.now)) (Err why)) (sym c.unread.ensures)
    (unread_where (question_of c.args.text.now) c.in-Err.fault (c.texts_ask_by_the_grammar.ensures.only_fault c.args.text.now)
    c.in-Err.ensures.stops)
