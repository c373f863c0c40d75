use Rattle.gr_session.specs.Steps.{StandsStill}
use Rattle.gr_session.proofs.serving.look.Given as goal

abbrev pub invariant-loop : goal.invariant-loop
invariant-loop g l =
    (goal.iterator-loop g).can_next l.iterator' × (goal.iterator-loop g).is_finite l.iterator' × StandsStill l.fn.pass l.pass
