use Rattle.gr_law.proofs.Late.{law_2-holds}
use Rattle.gr_law.proofs.Held.{law_3-holds, same_value-holds, same_entry-holds, law_4-holds}
use Rattle.gr_law.proofs.laws.laws_of_whole_records.Goals as goal

pub returns : goal.returns
returns c = record {
  law_2 = law_2-holds;
  law_3 = law_3-holds;
  same_value = same_value-holds;
  same_entry = same_entry-holds;
  law_4 = law_4-holds;
}
