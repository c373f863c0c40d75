-- The shard of a key is the same at all members.
use Rattle.std.specs.Prelude.{ℕ, ◌+◌, ◌*◌, ◌%◌, ◌^◌, List, fold}

-- a number of 32 bits drawn from all bytes, the first one counting most
abbrev pub key_hash : List ℕ → ℕ
key_hash bytes = fold (λ hash byte. (hash * 31 + byte) % 2 ^ 32) 0 bytes

abbrev pub shard_of : List ℕ → ℕ → ℕ
shard_of bytes shards = key_hash bytes % shards
