use Rattle.std.proofs.Common.{◌≡◌, map}
use Rattle.std.specs.Map.Iter.{deref_pair}
use Rattle.gr_shard.specs.Telling.{with_keys}
use Rattle.gr_shard.proofs.telling.add_keys.Given as goal

abbrev pub invariant-loop-key : goal.invariant-loop-key
invariant-loop-key l = l.keys.keys ≡ with_keys l.initial.keys.keys (map deref_pair l.yielded)
