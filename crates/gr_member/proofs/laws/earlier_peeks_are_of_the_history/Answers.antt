use Rattle.gr_member.proofs.Peeking.{of_history}
use Rattle.gr_member.proofs.laws.earlier_peeks_are_of_the_history.Goals as goal

pub returns : goal.returns
returns c = of_history
