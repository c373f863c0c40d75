use Rattle.std.proofs.Common.{◌≡◌, take, reverse}
use Rattle.gr_history.specs.Gifts.{own_changes}
use Rattle.gr_shard.proofs.giving.own_changes.Given as goal

abbrev pub invariant-loop-deed : goal.invariant-loop-deed
invariant-loop-deed l = l.changes ≡ own_changes (reverse (take l.deed-index l.deeds))
