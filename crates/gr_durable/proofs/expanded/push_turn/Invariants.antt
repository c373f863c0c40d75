use Rattle.std.proofs.Common.{◌≡◌, ◌++◌}
use Rattle.gr_durable.proofs.expanded.push_turn.Given as goal

abbrev pub invariant-loop-line : goal.invariant-loop-line
invariant-loop-line l = l.all ≡ l.initial.all ++ l.yielded
