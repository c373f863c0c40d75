use Rattle.gr_law.proofs.Broken.{law_0-breaks, law_1-breaks, law_2-breaks, law_3-breaks, stands-breaks, same_value-breaks}
use Rattle.gr_law.proofs.Broken.{there-breaks, same_key-breaks, same_entry-breaks, law_4-breaks, law_5-breaks, rows-break, events-break}
use Rattle.gr_law.proofs.laws.bad_records_break_the_laws.Goals as goal

pub returns : goal.returns
returns c = record {
  law_0 = law_0-breaks;
  law_1 = law_1-breaks;
  law_2 = law_2-breaks;
  law_3 = law_3-breaks;
  stands = stands-breaks;
  there = there-breaks;
  same_value = same_value-breaks;
  same_key = same_key-breaks;
  same_entry = same_entry-breaks;
  law_4 = law_4-breaks;
  law_5 = law_5-breaks;
  rows = rows-break;
  events = events-break;
}
