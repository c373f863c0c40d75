use Rattle.gr_durable.proofs.Told.{hold_answers}
use Rattle.gr_durable.proofs.laws.tables_follow_answers.Goals as goal

pub returns : goal.returns
returns c = hold_answers
