use Rattle.gr_durable.proofs.Played.{holds_results}
use Rattle.gr_durable.proofs.laws.tables_of_a_shard_are_results.Goals as goal

pub returns : goal.returns
returns c = holds_results
