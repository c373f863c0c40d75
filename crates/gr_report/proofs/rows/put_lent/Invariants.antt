use Rattle.std.proofs.Common.{◌≡◌, ◌++◌, flat_map, map, take}
use Rattle.std.specs.Map.Iter.{deref}
use Rattle.gr_report.specs.Regions.{row_line}
use Rattle.gr_report.proofs.rows.put_lent.Given as goal

abbrev pub invariant-loop-row : goal.invariant-loop-row
invariant-loop-row l = l.out.items ≡ l.initial.out.items ++ flat_map row_line (map deref (take l.row-index l.rows))
