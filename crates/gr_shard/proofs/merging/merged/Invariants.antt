use Rattle.std.proofs.Common.{◌≡◌, map}
use Rattle.std.specs.List.{fold}
use Rattle.std.specs.Map.Iter.{deref_pair}
use Rattle.gr_shard.specs.Merges.{rows_leave, with_unknown}
use Rattle.gr_shard.proofs.merging.merged.Given as goal

abbrev pub invariant-loop-key : goal.invariant-loop-key
invariant-loop-key l =
    l.left.entries ≡ fold (with_unknown l.image.vector.ids) (rows_leave l.known.ids l.clock l.slots.entries l.image.rows) (map deref_pair l.yielded)
