use Rattle.std.proofs.Common.{◌≡◌}
use Rattle.std.specs.Prelude.{All, IfSome}
use Rattle.gr_thread_tests.proofs.turns.crowd.slots_of.Given as goal

abbrev pub invariant-loop-number : goal.invariant-loop-number
invariant-loop-number l =
    All (λ seat. seat.lock ≡ l.fn.lock) l.left
    × All (λ slot. IfSome slot.seat (λ seat. seat.lock ≡ l.fn.lock)) l.slots.items
