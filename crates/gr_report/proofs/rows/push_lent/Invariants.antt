use Rattle.std.proofs.Common.{◌≡◌, ◌++◌, map, take}
use Rattle.std.specs.Map.Iter.{deref}
use Rattle.gr_report.proofs.rows.push_lent.Given as goal

abbrev pub invariant-loop-row : goal.invariant-loop-row
invariant-loop-row l = map deref l.rows.items ≡ map deref l.initial.rows.items ++ take l.row-index l.more
