use Rattle.gr_oql.proofs.MustLemmas.{met, compared_met}
use Rattle.gr_oql.proofs.laws.matches_meet_what_they_must.Goals as goal

pub returns : goal.returns
returns c = record { met = met; compared = compared_met }
