use Rattle.gr_shard.proofs.Turning.{noted_nothing}
use Rattle.gr_shard.proofs.telling.foresee_change.Goals as goal

pub returns-in_default-clause-foreseen : goal.returns-in_default-clause-foreseen
returns-in_default-clause-foreseen c = rw c.in_default.is (noted_nothing c.args.queries.now.entries)
