use Rattle.gr_run_law.proofs.Broken.{duties_broken, gifts_broken, waits_broken, takings_broken, rounds_broken, hearings_broken}
use Rattle.gr_run_law.proofs.Broken.{all_broken, rows_broken}
use Rattle.gr_run_law.proofs.laws.bad_runs_break_the_clauses.Goals as goal

pub returns : goal.returns
returns c = record {
  duties = duties_broken;
  gifts = gifts_broken;
  waits = waits_broken;
  takings = takings_broken;
  rounds = rounds_broken;
  hearings = hearings_broken;
  all = all_broken;
  rows = rows_broken;
}
