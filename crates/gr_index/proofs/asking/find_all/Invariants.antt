use Rattle.std.proofs.Common.{◌≡◌, [], take}
use Rattle.std.specs.List.{fold}
use Rattle.gr_index.specs.Answer.{standing_rows, with_row}
use Rattle.gr_index.proofs.asking.find_all.Given as goal

abbrev pub invariant-loop-shard : goal.invariant-loop-shard
invariant-loop-shard l = l.found.entries ≡ fold (with_row l.query) [] (standing_rows (take l.shard-index l.shards))
