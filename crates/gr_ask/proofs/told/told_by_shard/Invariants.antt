use Rattle.std.proofs.Common.{◌≡◌, ℕ, take}
use Rattle.gr_ask.specs.Told.{events_among, events_told}
use Rattle.gr_ask.proofs.told.told_by_shard.Given as goal

abbrev pub invariant-loop-openings : goal.invariant-loop-openings
invariant-loop-openings l = (seq : ℕ) → events_among seq l.all.items ≡ events_told l.client seq (take l.openings-index l.shards)
