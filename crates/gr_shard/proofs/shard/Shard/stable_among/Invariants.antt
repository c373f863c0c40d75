use Rattle.std.proofs.Common.{◌≡◌, take, filter, reverse}
use Rattle.gr_history.specs.Standing.{standing}
use Rattle.gr_shard.specs.Sweeps.{stands_stable}
use Rattle.gr_shard.proofs.shard.Shard.stable_among.Given as goal

abbrev pub invariant-loop-key : goal.invariant-loop-key
invariant-loop-key l =
    l.stable ≡ filter (λ key. stands_stable l.self.id (reverse l.self.deeds) (standing key (reverse l.self.deeds)))
    (take l.key-index l.keys)
