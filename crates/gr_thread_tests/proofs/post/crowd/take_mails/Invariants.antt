use Rattle.std.proofs.Common.{◌≡◌}
use Rattle.gr_thread_tests.proofs.post.crowd.take_mails.Given as goal

abbrev pub invariant-loop : goal.invariant-loop
invariant-loop g l = l.taker.table ≡ l.fn.inbox.table
