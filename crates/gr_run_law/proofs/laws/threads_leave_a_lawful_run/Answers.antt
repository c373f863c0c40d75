use Rattle.gr_run_law.proofs.Running.{threads_run, left_lawful}
use Rattle.gr_run_law.proofs.laws.threads_leave_a_lawful_run.Goals as goal

pub returns : goal.returns
returns c = record { run = threads_run; record_of = left_lawful }
