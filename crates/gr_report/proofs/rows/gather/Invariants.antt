use Rattle.std.proofs.Common.{◌≡◌, take}
use Rattle.std.specs.List.{fold}
use Rattle.gr_report.specs.Rows.{with_row}
use Rattle.gr_report.specs.Shown.{shown}
use Rattle.gr_report.proofs.rows.gather.Given as goal

abbrev pub invariant-loop-row : goal.invariant-loop-row
invariant-loop-row g l =
    shown l.rows.entries ≡ fold (with_row g.T.Keyed.key) (shown l.initial.rows.entries) (take l.row-index l.more)
