use Rattle.gr_runner.specs.Mailing.{IsOpen}
use Rattle.gr_runner.proofs.mailing.Mailing.new.Given as goal

abbrev pub invariant-loop-k : goal.invariant-loop-k
invariant-loop-k l = IsOpen l._k l.fn.senders l.inboxes l.sends.items l.takes.items
