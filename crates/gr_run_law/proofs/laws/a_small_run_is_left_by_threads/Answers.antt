use Rattle.gr_run_law.proofs.Small.{small_script, small_left}
use Rattle.gr_run_law.proofs.laws.a_small_run_is_left_by_threads.Goals as goal

pub returns : goal.returns
returns c = record { script = small_script; left = small_left }
