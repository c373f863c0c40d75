use Rattle.std.proofs.Common.{◌≡◌}
use Rattle.gr_host.specs.Hosts.{HasMailAt}
use Rattle.gr_host.proofs.host.Host.skip.Given as goal

abbrev pub invariant-loop : goal.invariant-loop
invariant-loop g l =
    (goal.iterator-loop g).can_next l.iterator' × (goal.iterator-loop g).is_finite l.iterator'
    × HasMailAt l.fn.inboxes l.self × (l.self.pass ≡ l.fn.self.pass) × (l.self.visits ≡ l.fn.self.visits)
