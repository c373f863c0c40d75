use Rattle.gr_run_law.proofs.Closed.{takes_all}
use Rattle.gr_run_law.proofs.Rows.{regions_same}
use Rattle.gr_run_law.proofs.laws.lawful_runs_are_closed.Goals as goal

pub returns : goal.returns
returns c = record { all = takes_all; rows = regions_same }
