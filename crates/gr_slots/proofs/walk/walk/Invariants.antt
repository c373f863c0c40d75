use Rattle.std.proofs.Common.{length}
use Rattle.gr_slots.specs.Links.{AreLinked}
use Rattle.gr_slots.proofs.Links.{IsBehind}
use Rattle.gr_slots.proofs.walk.walk.Given as goal

abbrev pub invariant-loop : goal.invariant-loop
invariant-loop l = AreLinked l.seats l.cells (length l.cells) → IsBehind l.seats l.cells l.key l.at
