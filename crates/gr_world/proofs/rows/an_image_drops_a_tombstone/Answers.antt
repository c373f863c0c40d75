use Rattle.std.proofs.Common.{refl}
use Rattle.gr_history.specs.Recipients.{recipients}
use Rattle.gr_history.specs.Stable.{is_stable}
use Rattle.gr_world.proofs.Scripts.{joining-script}
use Rattle.gr_world.proofs.rows.an_image_drops_a_tombstone.Goals as goal

pub returns-clause-script : goal.returns-clause-script
returns-clause-script c = joining-script

pub returns-clause-giver : goal.returns-clause-giver
unfolding recipients is_stable
returns-clause-giver c = refl

pub returns-clause-joiner : goal.returns-clause-joiner
unfolding recipients is_stable
returns-clause-joiner c = refl
