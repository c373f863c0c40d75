use Rattle.std.proofs.Common.{◌≤◌}
use Rattle.gr_rows.proofs.queries.compare.Given as goal

abbrev pub invariant-loop-index : goal.invariant-loop-index
invariant-loop-index g l = (l.same ≤ l.index) × (l.differ ≤ l.index)
