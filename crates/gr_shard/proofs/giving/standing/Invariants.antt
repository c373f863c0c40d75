use Rattle.std.proofs.Common.{◌≡◌, map}
use Rattle.std.specs.Map.Iter.{deref_pair}
use Rattle.gr_shard.specs.Entries.{changes_in}
use Rattle.gr_shard.proofs.giving.standing.Given as goal

abbrev pub invariant-loop-key : goal.invariant-loop-key
invariant-loop-key l = l.changes ≡ changes_in (map deref_pair l.yielded)
