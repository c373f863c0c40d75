use Rattle.std.proofs.Common.{◌≡◌}
use Rattle.gr_index.specs.Answer.{found_rows}
use Rattle.gr_index.proofs.asking.found_rows.Given as goal

abbrev pub invariant-loop-key : goal.invariant-loop-key
invariant-loop-key l = l.rows.items ≡ found_rows l.yielded
