use Rattle.std.proofs.Common.{sym}
use Rattle.gr_shard.proofs.Pushed.{so_on_ok}
use Rattle.gr_shard.proofs.Turning.{noted_nothing}
use Rattle.gr_shard.proofs.telling.come_in_published.Goals as goal

pub returns-in_default-clause-told : goal.returns-in_default-clause-told
returns-in_default-clause-told g c = rw c.in_default.is (so_on_ok c.publish.result (sym (noted_nothing c.args.queries.now.entries)))
