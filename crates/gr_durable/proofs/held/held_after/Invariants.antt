use Rattle.std.proofs.Common.{◌≡◌, take, reverse}
use Rattle.gr_durable.specs.Tables.{held_after}
use Rattle.gr_durable.proofs.held.held_after.Given as goal

abbrev pub invariant-loop-deed : goal.invariant-loop-deed
invariant-loop-deed l = l.held ≡ held_after l.client (reverse (take l.deed-index l.deeds))
