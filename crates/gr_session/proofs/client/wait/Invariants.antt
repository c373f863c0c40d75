use Rattle.gr_session.specs.Clients.{OnlyLooks}
use Rattle.gr_session.proofs.client.wait.Given as goal

abbrev pub invariant-loop : goal.invariant-loop
invariant-loop g l =
    (goal.iterator-loop g).can_next l.iterator' × (goal.iterator-loop g).is_finite l.iterator' × OnlyLooks l.fn.session l.session
