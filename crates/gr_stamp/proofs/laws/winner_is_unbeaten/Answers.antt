use Rattle.gr_stamp.proofs.Winning.{winner-found}
use Rattle.gr_stamp.proofs.laws.winner_is_unbeaten.Goals as goal

pub returns : goal.returns
returns c = record { found = winner-found }
