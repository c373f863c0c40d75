use Rattle.std.proofs.Common.{◌≡◌, take}
use Rattle.gr_shard.specs.Merges.{rows_leave}
use Rattle.gr_shard.proofs.merging.rows_over.Given as goal

abbrev pub invariant-loop-row : goal.invariant-loop-row
invariant-loop-row l = l.left.entries ≡ rows_leave l.known.ids l.clock l.slots.entries (take l.row-index l.rows)
