use Rattle.std.proofs.Common.{◌≡◌, length}
use Rattle.gr_world.specs.Numbered.{PairsFrom}
use Rattle.gr_world.specs.Worlds.{IsMemberOf}
use Rattle.gr_world.proofs.grid.Grid.into_records.Given as goal

abbrev pub invariant-loop-row : goal.invariant-loop-row
invariant-loop-row l = PairsFrom IsMemberOf 1 l.yielded l.members × (l.member ≡ length l.yielded)
