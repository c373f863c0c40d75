use Rattle.std.proofs.Common.{◌≡◌, ◌*◌, ◌≤◌, ◌^◌, take}
use Rattle.gr_report.specs.Counts.{counts_of}
use Rattle.gr_report.proofs.counts.count_all.Given as goal

abbrev pub invariant-loop-shard : goal.invariant-loop-shard
invariant-loop-shard l = record {
  counted : l.counts ≡ counts_of (take l.shard-index l.shards);
  entries : l.counts.entries ≤ l.shard-index * 2 ^ 64;
  tombstones : l.counts.tombstones ≤ l.shard-index * 2 ^ 64;
  conflated : l.counts.conflated ≤ l.shard-index * 2 ^ 64;
  repeats : l.counts.repeats ≤ l.shard-index * 2 ^ 64;
}
