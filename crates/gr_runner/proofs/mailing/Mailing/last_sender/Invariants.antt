use Rattle.std.proofs.Common.{◌≡◌}
use Rattle.gr_runner.proofs.Posting.{Popped}
use Rattle.gr_runner.proofs.mailing.Mailing.last_sender.Given as goal

abbrev pub invariant-loop-k : goal.invariant-loop-k
invariant-loop-k l = record {
  inboxes : l.self.inboxes ≡ l.fn.self.inboxes;
  takes : l.self.takes ≡ l.fn.self.takes;
  popped : Popped l.fn.self.sends.items l.self.sends.items l.own l.k;
}
