use Rattle.std.proofs.Common.{◌≡◌, take}
use Rattle.std.specs.List.{fold}
use Rattle.gr_index.specs.Answer.{with_row}
use Rattle.gr_index.proofs.asking.add_rows.Given as goal

abbrev pub invariant-loop-row : goal.invariant-loop-row
invariant-loop-row l = l.found.entries ≡ fold (with_row l.query) l.initial.found.entries (take l.row-index l.rows)
