use Rattle.std.proofs.Common.{refl}
use Rattle.gr_history.specs.Recipients.{recipients}
use Rattle.gr_history.specs.Stable.{is_stable}
use Rattle.gr_world.proofs.rows.a_joiner_that_never_joined_is_not_waited_for.Goals as goal

pub returns-clause-giver : goal.returns-clause-giver
unfolding recipients is_stable
returns-clause-giver c = refl

pub returns-clause-joiner : goal.returns-clause-joiner
unfolding recipients is_stable
returns-clause-joiner c = refl
