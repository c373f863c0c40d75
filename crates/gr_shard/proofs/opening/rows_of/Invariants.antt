use Rattle.std.proofs.Common.{◌≡◌, map}
use Rattle.std.specs.Map.Iter.{deref_pair}
use Rattle.gr_shard.specs.Asking.{rows_in}
use Rattle.gr_shard.proofs.opening.rows_of.Given as goal

abbrev pub invariant-loop-key : goal.invariant-loop-key
invariant-loop-key l = l.rows ≡ rows_in l.query (map deref_pair l.yielded)
