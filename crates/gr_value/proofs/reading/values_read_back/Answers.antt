use Rattle.gr_value.proofs.RoundTrip.{value_read_back}
use Rattle.gr_value.proofs.reading.values_read_back.Goals as goal

pub returns : goal.returns
returns c = value_read_back
