use Rattle.std.proofs.Common.{◌≡◌}
use Rattle.gr_thread_tests.proofs.post.crowd.send_one.Given as goal

abbrev pub invariant-loop : goal.invariant-loop
invariant-loop g l = l.pass.table ≡ l.fn.inbox.table
