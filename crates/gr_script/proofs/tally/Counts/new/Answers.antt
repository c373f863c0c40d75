use Rattle.gr_script.proofs.PastMore.{none_counted}
use Rattle.gr_script.proofs.tally.Counts.new.Goals as goal

pub returns : goal.returns
returns c n = none_counted 256 n
