use Rattle.std.proofs.Common.{◌≡◌, ◌≤◌}
use Rattle.gr_turn.specs.Views.{with_lost}
use Rattle.gr_turn.proofs.lock.TurnLock.enter.Given as goal

abbrev pub invariant-loop : goal.invariant-loop
invariant-loop g l =
    (goal.iterator-loop g).can_next l.iterator' × (goal.iterator-loop g).is_finite l.iterator' × (l.waiting.lock ≡ l.fn.seat.lock)
    × (l.waiting.view ≡ with_lost l.fn.seat.view l.waiting.view.lost l.waiting.view.word) × (l.fn.seat.view.lost ≤ l.waiting.view.lost)
