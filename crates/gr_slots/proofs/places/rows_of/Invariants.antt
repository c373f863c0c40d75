use Rattle.std.proofs.Common.{◌≡◌, map, take}
use Rattle.std.specs.Map.Iter.{deref_pair}
use Rattle.gr_slots.specs.Cells.{rows_of}
use Rattle.gr_slots.proofs.places.rows_of.Given as goal

abbrev pub invariant-loop-cell : goal.invariant-loop-cell
invariant-loop-cell l = map deref_pair l.rows.items ≡ rows_of (take l.cell-index l.cells)
