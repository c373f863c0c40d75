use Rattle.std.proofs.Common.{◌≡◌, ◌++◌, List}
use Rattle.std.specs.VecDeque.{deque_len}
use Rattle.gr_post.specs.declared.mail.Mail.{Mail}
use Rattle.gr_post.specs.Lanes.{HasRoom}
use Rattle.gr_post.proofs.lane.Lane.send_until_full.Given as goal

abbrev pub invariant-loop-mail : goal.invariant-loop-mail
invariant-loop-mail g l = (gone : List Mail) × (l.initial.self-inside.waiting.items ≡ gone ++ l.self-inside.waiting.items)
    × (l.self-inside.pass ≡ record l.initial.self-inside.pass { sent = l.initial.self-inside.pass.sent ++ gone })
    × (l.self-inside.late ≡ l.initial.self-inside.late)
    × (l.self-inside.held ≡ l.initial.self-inside.held)
    × (l.self-inside.ready ≡ l.initial.self-inside.ready)
    × HasRoom l.self-inside.waiting l.self-inside.late l.self-inside.held l.self-inside.ready

abbrev pub decreases-loop-mail : goal.decreases-loop-mail
decreases-loop-mail g l = deque_len l.self-inside.waiting
