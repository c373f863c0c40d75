use Rattle.std.specs.Prelude.{vec_len}
use Rattle.std.specs.List.{AllByRecursion}
use Rattle.gr_runner.specs.Dealing.{HasNone}
use Rattle.gr_runner.proofs.rooms.let_go_of.Given as goal

abbrev pub invariant-loop-room : goal.invariant-loop-room
invariant-loop-room l = AllByRecursion HasNone l.rooms.items

abbrev pub decreases-loop-room : goal.decreases-loop-room
decreases-loop-room l = vec_len l.rooms
