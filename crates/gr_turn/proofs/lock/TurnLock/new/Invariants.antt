use Rattle.std.proofs.Common.{◌≡◌, ◌≤◌, ℕ, [], length, slice_get, Some}
use Rattle.std.specs.Vec.{vec_capacity}
use Rattle.gr_turn.specs.Views.{root_view, seat_view}
use Rattle.gr_turn.proofs.lock.TurnLock.new.Given as goal

abbrev pub invariant-loop-k : goal.invariant-loop-k
invariant-loop-k g l =
    (l.root.table_id ≡ l.lock)
    × (l.root.me ≡ (root_view (g.T.Kept.base l.fn.value) l.fn.seats (g.T.Kept.entries l.fn.value) l._k, []))
    × (length l.items.items ≡ l._k)
    × (l.fn.seats ≤ vec_capacity l.items)
    × ((k : ℕ) (seat : _) → slice_get l.items.items k ≡ Some seat → (seat.lock ≡ l.lock)
    × (seat.view ≡ seat_view (g.T.Kept.base l.fn.value) l.fn.seats (g.T.Kept.entries l.fn.value) k))
