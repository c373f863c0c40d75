use Rattle.std.proofs.Common.{refl}
use Rattle.gr_history.specs.Recipients.{recipients}
use Rattle.gr_world.proofs.Scripts.{repeated-script}
use Rattle.gr_world.proofs.rows.a_repeat_is_told.Goals as goal

pub returns-clause-script : goal.returns-clause-script
returns-clause-script c = repeated-script

pub returns-clause-history : goal.returns-clause-history
unfolding recipients
returns-clause-history c = refl
