use Rattle.std.proofs.Common.{◌≡◌, false, reverse, take}
use Rattle.std.specs.List.{list_any}
use Rattle.gr_durable.specs.Expanding.{is_absence}
use Rattle.gr_durable.proofs.expanded.are_plain.Given as goal

abbrev pub invariant-loop-line : goal.invariant-loop-line
invariant-loop-line l = list_any is_absence (reverse (take l.line-index l.lines)) ≡ false
