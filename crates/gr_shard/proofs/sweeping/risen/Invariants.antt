use Rattle.std.proofs.Common.{◌≡◌, ◌≤◌, take}
use Rattle.gr_stamp.specs.declared.stamp.TheConstants.{LIMIT}
use Rattle.gr_shard.specs.Sweeps.{risen}
use Rattle.gr_shard.proofs.sweeping.risen.Given as goal

abbrev pub invariant-loop-key : goal.invariant-loop-key
invariant-loop-key l = record { so_far : l.risen ≡ risen l.slots.entries l.floor (take l.key-index l.keys); within : l.risen ≤ LIMIT }
