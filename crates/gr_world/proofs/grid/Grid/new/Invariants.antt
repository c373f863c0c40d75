use Rattle.std.proofs.Common.{◌≡◌}
use Rattle.gr_world.specs.Numbered.{numbers_from}
use Rattle.gr_world.specs.Worlds.{new_row}
use Rattle.gr_world.proofs.grid.Grid.new.Given as goal

abbrev pub invariant-loop-below : goal.invariant-loop-below
invariant-loop-below l = l.rows.items ≡ numbers_from 1 l.below (new_row l.fn.id l.fn.floor)
