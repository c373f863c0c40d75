use Rattle.std.proofs.Common.{◌≡◌}
use Rattle.gr_thread_tests.proofs.post.crowd.send_mails.Given as goal

abbrev pub invariant-loop-at : goal.invariant-loop-at
invariant-loop-at g l = l.pass.table ≡ l.fn.inbox.table
