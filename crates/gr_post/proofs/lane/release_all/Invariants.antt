use Rattle.std.proofs.Common.{◌≡◌, ◌++◌, ◌+◌, ◌≤◌}
use Rattle.std.specs.VecDeque.{deque_len, deque_capacity}
use Rattle.gr_post.specs.Plan.{mails}
use Rattle.gr_post.proofs.lane.release_all.Given as goal

abbrev pub invariant-loop-one : goal.invariant-loop-one
invariant-loop-one l =
    (l.waiting.items ++ mails l.held.items ≡ l.initial.waiting.items ++ mails l.initial.held.items)
    × (deque_len l.waiting + deque_len l.held + 1 ≤ deque_capacity l.waiting)
    × (deque_capacity l.waiting ≡ deque_capacity l.initial.waiting)

abbrev pub decreases-loop-one : goal.decreases-loop-one
decreases-loop-one l = deque_len l.held
