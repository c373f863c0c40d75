use Rattle.std.proofs.Common.{◌≡◌, ◌^◌, ◌<◌, take}
use Rattle.gr_value.specs.Shard.{key_hash}
use Rattle.gr_value.proofs.key.Key.shard.Given as goal

abbrev pub invariant-loop-byte : goal.invariant-loop-byte
invariant-loop-byte l = record { small : l.hash < 2 ^ 32; drawn : l.hash ≡ key_hash (take l.byte-index l.byte-items) }
