use Rattle.std.proofs.Common.{◌≡◌, take}
use Rattle.gr_ask.specs.Told.{openings_at}
use Rattle.gr_ask.proofs.telling.openings_at.Given as goal

abbrev pub invariant-loop-shard : goal.invariant-loop-shard
invariant-loop-shard l = l.all.items ≡ openings_at (take l.shard-index l.shards)
