use Rattle.gr_durable.proofs.Shown.{replays_show, tables_show}
use Rattle.gr_durable.proofs.laws.tables_are_results.Goals as goal

pub returns-clause-records : goal.returns-clause-records
returns-clause-records c = tables_show

pub returns-clause-replays : goal.returns-clause-replays
returns-clause-replays c = replays_show
