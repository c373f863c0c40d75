use Rattle.std.proofs.Common.{◌≡◌, ◌++◌, ◌+◌}
use Rattle.std.specs.VecDeque.{deque_len, deque_capacity}
use Rattle.gr_post.proofs.lane.release_late.Given as goal

abbrev pub invariant-loop-mail : goal.invariant-loop-mail
invariant-loop-mail l =
    (l.waiting.items ++ l.late.items ≡ l.initial.waiting.items ++ l.initial.late.items)
    × (deque_len l.waiting + deque_len l.late ≡ deque_len l.initial.waiting + deque_len l.initial.late)
    × (deque_capacity l.waiting ≡ deque_capacity l.initial.waiting)

abbrev pub decreases-loop-mail : goal.decreases-loop-mail
decreases-loop-mail l = deque_len l.late
