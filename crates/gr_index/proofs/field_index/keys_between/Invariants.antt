use Rattle.std.proofs.Common.{◌≡◌, map}
use Rattle.gr_index.specs.Cells.{keys_in}
use Rattle.gr_index.proofs.field_index.keys_between.Given as goal

abbrev pub invariant-loop-cell : goal.invariant-loop-cell
invariant-loop-cell l = l.keys ≡ keys_in (map (λ cell. cell.now) l.yielded)
