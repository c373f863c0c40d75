use Rattle.std.proofs.Common.{◌≡◌, ◌++◌, map, filter, take}
use Rattle.gr_report.specs.Own.{is_own, row_number}
use Rattle.gr_report.proofs.own.push_numbers.Given as goal

abbrev pub invariant-loop-row : goal.invariant-loop-row
invariant-loop-row l = l.numbers.items ≡ l.initial.numbers.items ++ map row_number (filter is_own (take l.row-index l.rows))
