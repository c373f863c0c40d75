use Rattle.std.proofs.Common.{refl}
use Rattle.gr_history.specs.Recipients.{recipients}
use Rattle.gr_world.proofs.Scripts.{concurrent-script}
use Rattle.gr_world.proofs.rows.concurrent_puts_meet.Goals as goal

pub returns-clause-script : goal.returns-clause-script
returns-clause-script c = concurrent-script

pub returns-clause-course : goal.returns-clause-course
unfolding recipients
returns-clause-course c = refl
