use Rattle.std.specs.Prelude.{◌≤◌}
use Rattle.std.specs.Vec.{vec_capacity}
use Rattle.gr_runner.specs.Dealing.{AreRooms}
use Rattle.gr_runner.proofs.rooms.rooms_for_visits.Given as goal

abbrev pub invariant-loop-k : goal.invariant-loop-k
invariant-loop-k l = record {
  held : l.members ≤ vec_capacity l.made;
  rooms : AreRooms l._k l.members l.made.items;
}
