use Rattle.gr_law.proofs.Small.{small-whole, dropped_3, floor_3, stands_3}
use Rattle.gr_law.proofs.laws.a_small_record_is_whole.Goals as goal

pub returns : goal.returns
returns c = record { whole = small-whole; dropped = dropped_3; floor = floor_3; stands = stands_3 }
