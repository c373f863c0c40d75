use Rattle.std.proofs.Common.{◌≡◌}
use Rattle.gr_thread_tests.proofs.post.take_all.Given as goal

abbrev pub invariant-loop : goal.invariant-loop
invariant-loop g l = l.taker.table ≡ l.inbox.table
