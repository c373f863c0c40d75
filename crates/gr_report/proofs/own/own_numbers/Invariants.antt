use Rattle.std.proofs.Common.{◌≡◌, map, take}
use Rattle.gr_report.specs.Own.{own_rows, row_number}
use Rattle.gr_report.proofs.own.own_numbers.Given as goal

abbrev pub invariant-loop-shard : goal.invariant-loop-shard
invariant-loop-shard l = l.numbers.items ≡ map row_number (own_rows (take l.shard-index l.shards))
