use Rattle.std.proofs.Common.{◌≡◌}
use Rattle.std.specs.Prelude.{All}
use Rattle.gr_thread_tests.proofs.post.crowd.meet_all.Given as goal

abbrev pub invariant-loop : goal.invariant-loop
invariant-loop l = (l.taker.table ≡ l.fn.inbox.table) × All (λ pass. pass.table ≡ l.fn.inbox.table) l.left.items
