use Rattle.std.proofs.Common.{◌≡◌, ◌++◌, ◌+◌, ◌-◌, ◌≤◌, List, length}
use Rattle.std.specs.VecDeque.{deque_len, deque_capacity}
use Rattle.gr_post.specs.declared.fate.Held.{Held}
use Rattle.gr_post.specs.Plan.{due, kept}
use Rattle.gr_post.proofs.lane.release_due.Given as goal

-- the held mails that were looked at, and those that are left
abbrev pub invariant-loop-place : goal.invariant-loop-place
invariant-loop-place l = (seen : List Held) × (left : List Held) × (seen ++ left ≡ l.initial.held.items)
    × (l.place ≡ length (kept seen))
    × (l.held.items ≡ kept seen ++ left)
    × (l.waiting.items ≡ l.initial.waiting.items ++ due seen)
    × (deque_len l.waiting + deque_len l.held ≤ deque_capacity l.waiting)
    × (deque_len l.held ≤ deque_len l.initial.held)
    × (deque_capacity l.waiting ≡ deque_capacity l.initial.waiting)
    × (deque_capacity l.held ≡ deque_capacity l.initial.held)

abbrev pub decreases-loop-place : goal.decreases-loop-place
decreases-loop-place l = deque_len l.held - l.place
