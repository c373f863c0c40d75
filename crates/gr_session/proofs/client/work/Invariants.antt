use Rattle.gr_session.specs.Clients.{DoesMore}
use Rattle.gr_session.proofs.client.work.Given as goal

abbrev pub invariant-loop : goal.invariant-loop
invariant-loop g l =
    (goal.iterator-loop g).can_next l.iterator' × (goal.iterator-loop g).is_finite l.iterator' × DoesMore l.fn.session l.session
