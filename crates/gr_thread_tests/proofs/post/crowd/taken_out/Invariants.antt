use Rattle.std.proofs.Common.{◌≡◌}
use Rattle.std.specs.Prelude.{All}
use Rattle.gr_thread_tests.proofs.post.crowd.taken_out.Given as goal

abbrev pub invariant-loop : goal.invariant-loop
invariant-loop l =
    All (λ pass. pass.table ≡ l.fn.inbox.table) l.left × All (λ pass. pass.table ≡ l.fn.inbox.table) l.taken.items
