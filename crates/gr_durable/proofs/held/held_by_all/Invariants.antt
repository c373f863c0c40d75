use Rattle.std.proofs.Common.{◌≡◌, take, map}
use Rattle.gr_durable.specs.Tables.{held_by}
use Rattle.gr_durable.proofs.held.held_by_all.Given as goal

abbrev pub invariant-loop-shard : goal.invariant-loop-shard
invariant-loop-shard l = l.all ≡ map (held_by l.client) (take l.shard-index l.shards)
