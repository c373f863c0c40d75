use Rattle.std.proofs.Common.{◌≡◌, ◌++◌, ◌+◌, ◌≤◌}
use Rattle.std.specs.VecDeque.{deque_len, deque_capacity}
use Rattle.gr_post.specs.Lanes.{to_the_end}
use Rattle.gr_post.proofs.lane.set_aside.Given as goal

abbrev pub invariant-loop-held : goal.invariant-loop-held
invariant-loop-held l =
    (to_the_end l.late.items ++ l.held.items ≡ to_the_end l.initial.late.items ++ l.initial.held.items)
    × (deque_len l.late + deque_len l.held ≤ deque_capacity l.late)
    × (deque_capacity l.late ≡ deque_capacity l.initial.late)
    × (deque_capacity l.held ≡ deque_capacity l.initial.held)

abbrev pub decreases-loop-held : goal.decreases-loop-held
decreases-loop-held l = deque_len l.held
