use Rattle.std.proofs.Common.{◌≡◌}
use Rattle.std.specs.Prelude.{All, IfSome}
use Rattle.gr_thread_tests.proofs.turns.crowd.join_all.Given as goal

abbrev pub invariant-loop : goal.invariant-loop
invariant-loop l =
    (l.all.lock ≡ l.fn.lock)
    × All (λ slot. IfSome slot.seat (λ seat. seat.lock ≡ l.fn.lock)) l.left.items
