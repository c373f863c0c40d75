use Rattle.std.proofs.Common.{◌≡◌, map, take}
use Rattle.gr_shard.specs.Sweeps.{valueless}
use Rattle.gr_shard.proofs.sweeping.valueless.Given as goal

abbrev pub invariant-loop-key : goal.invariant-loop-key
invariant-loop-key l = l.turned.items ≡ map valueless (take l.key-index l.keys)
