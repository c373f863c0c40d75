use Rattle.gr_script.proofs.Questions.{query_spelled, query_halted}
use Rattle.gr_script.proofs.items.query_of.Goals as goal

pub returns-in-Ok : goal.returns-in-Ok
returns-in-Ok c = query_spelled c.args.text.now c.in-Ok.query c.in-Ok.ensures.spelled

pub returns-in-Err : goal.returns-in-Err
returns-in-Err c = rw c.from.ensures (query_halted c.args.text.now c.in-Err.fault c.in-Err.ensures.stops)
