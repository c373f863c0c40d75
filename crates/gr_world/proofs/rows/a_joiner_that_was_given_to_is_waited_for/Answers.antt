use Rattle.std.proofs.Common.{refl}
use Rattle.gr_history.specs.Recipients.{recipients}
use Rattle.gr_history.specs.Stable.{is_stable}
use Rattle.gr_world.proofs.rows.a_joiner_that_was_given_to_is_waited_for.Goals as goal

pub returns : goal.returns
unfolding recipients is_stable
returns c = refl
