use Rattle.gr_durable.proofs.Shown.{tables_of_open}
use Rattle.gr_durable.proofs.laws.tables_are_of_open_queries.Goals as goal

pub returns : goal.returns
returns c = tables_of_open
