use Rattle.std.proofs.Common.{◌≡◌, flat_map, map, take}
use Rattle.std.specs.Map.Iter.{deref}
use Rattle.gr_report.proofs.rows.lent_rows.Given as goal

abbrev pub invariant-loop-shard : goal.invariant-loop-shard
invariant-loop-shard l = map deref l.rows.items ≡ flat_map (λ shard. shard.region.rows) (take l.shard-index l.shards)
