use Rattle.std.proofs.Common.{◌≡◌}
use Rattle.gr_thread_tests.proofs.turns.crowd.take_turns.Given as goal

abbrev pub invariant-loop-at : goal.invariant-loop-at
invariant-loop-at g l = l.seat.lock ≡ l.fn.lock
