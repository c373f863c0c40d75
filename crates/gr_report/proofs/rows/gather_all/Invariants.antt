use Rattle.std.proofs.Common.{◌≡◌, take, flat_map}
use Rattle.gr_report.specs.Rows.{by_key}
use Rattle.gr_report.specs.Shown.{shown}
use Rattle.gr_report.proofs.rows.gather_all.Given as goal

abbrev pub invariant-loop-shard : goal.invariant-loop-shard
invariant-loop-shard l =
    shown l.rows.entries ≡ by_key (λ row. row.key) (flat_map (λ shard. shard.region.rows) (take l.shard-index l.shards))
