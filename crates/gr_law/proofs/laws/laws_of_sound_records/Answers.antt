use Rattle.gr_law.proofs.Reached.{law_0-holds}
use Rattle.gr_law.proofs.Took.{law_1-holds}
use Rattle.gr_law.proofs.Held.{law_5-holds}
use Rattle.gr_law.proofs.laws.laws_of_sound_records.Goals as goal

pub returns : goal.returns
returns c = record { law_0 = law_0-holds; law_1 = law_1-holds; law_5 = law_5-holds }
