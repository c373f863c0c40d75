-- What is counted at a member, over its shards.
use Rattle.std.specs.Prelude.{List, length, count_by, sum_by}
use Rattle.gr_history.specs.declared.record.ShardRecord.{ShardRecord}
use Rattle.gr_report.specs.declared.counts.Counts.{Counts}
use Rattle.gr_history.specs.Deeds.{is_discarded, is_repeat}

abbrev pub counts_of : List ShardRecord → Counts
counts_of shards = record {
  entries = sum_by (λ shard. length shard.region.rows) shards;
  tombstones = sum_by (λ shard. shard.region.tombstones) shards;
  conflated = sum_by (λ shard. count_by is_discarded shard.history.deeds) shards;
  repeats = sum_by (λ shard. count_by is_repeat shard.history.deeds) shards;
}
