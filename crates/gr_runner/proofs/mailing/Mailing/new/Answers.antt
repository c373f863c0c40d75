use Rattle.gr_runner.proofs.Posting.{open_more}
use Rattle.gr_runner.proofs.mailing.Mailing.new.Goals as goal

pub loop-k-preserved : goal.loop-k-preserved
loop-k-preserved c =
    open_more c.loop-k._k c.args.senders c.loop-k.inboxes c.push.new.self c.in_ok-inbox.inbox c.loop-k.sends.items
    c.push-in-loop-k.new.self.items c.in_ok-inbox.passes c.loop-k.takes.items c.push-in-loop-k-2.new.self.items c.in_ok-inbox.take
    c.loop-k.invariant c.in_ok-push.ensures.ok c.in_ok-push-2.ensures.items c.in_ok-push-3.ensures.items
    (record { many = c.in_ok-inbox.ensures.count; each = c.in_ok-inbox.ensures.senders }) c.in_ok-inbox.ensures.taker
