use Rattle.gr_session.proofs.Seeing.{seen_look}
use Rattle.gr_session.proofs.laws.peeks_look_at_the_history.Goals as goal

pub returns : goal.returns
returns c = seen_look
