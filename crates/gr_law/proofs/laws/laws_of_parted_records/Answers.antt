use Rattle.gr_law.proofs.Late.{law_2-parted}
use Rattle.gr_law.proofs.Held.{law_3-parted, same_value-parted, same_entry-parted, law_4-parted}
use Rattle.gr_law.proofs.laws.laws_of_parted_records.Goals as goal

pub returns : goal.returns
returns c = record {
  law_2 = law_2-parted;
  law_3 = law_3-parted;
  same_value = same_value-parted;
  same_entry = same_entry-parted;
  law_4 = law_4-parted;
}
