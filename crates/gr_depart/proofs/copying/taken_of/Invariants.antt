use Rattle.std.proofs.Common.{◌≡◌, reverse, take}
use Rattle.gr_world.specs.Departures.{taken_of}
use Rattle.gr_depart.proofs.copying.taken_of.Given as goal

abbrev pub invariant-loop-deed : goal.invariant-loop-deed
invariant-loop-deed l = l.taken.items ≡ reverse (taken_of l.fn.of (reverse (take l.deed-index l.deed-items)))
