use Rattle.gr_top.proofs.answering.answer_alone.Goals as goal

pub returns-in-At-clause-explained : goal.returns-in-At-clause-explained
returns-in-At-clause-explained g c = rw c.in-At.is c.answer_at.ensures.explained
