use Rattle.std.proofs.Common.{◌≡◌, take}
use Rattle.gr_shard.specs.Sweeps.{without_all}
use Rattle.gr_shard.proofs.sweeping.drop_all.Given as goal

abbrev pub invariant-loop-key : goal.invariant-loop-key
invariant-loop-key l = l.slots.entries ≡ without_all (take l.key-index l.keys) l.initial.slots.entries
