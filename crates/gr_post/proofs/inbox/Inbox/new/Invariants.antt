use Rattle.std.proofs.Common.{◌≡◌, ◌≤◌, ℕ, ◌<◌, length, get_or}
use Rattle.std.specs.Vec.{vec_capacity}
use Rattle.crossbeam_queue.specs.Passes.{view, IsPassOf}
use Rattle.gr_post.specs.Views.{taker}
use Rattle.gr_post.specs.Passes.{Sending, sender_of}
use Rattle.gr_post.proofs.inbox.Inbox.new.Given as goal

abbrev pub invariant-loop-number : goal.invariant-loop-number
invariant-loop-number l =
    IsPassOf l.queue l.token
    × (view l.token ≡ record taker { made = l.number })
    × (length l.passes.items ≡ l.number)
    × (l.fn.senders ≤ vec_capacity l.passes)
    × ((k : ℕ) (d : Sending) → k < l.number → get_or l.passes.items k d ≡ sender_of l.queue.table.shared.table_id k)
