use Rattle.std.proofs.Common.{[]}
use Rattle.gr_host.proofs.Hosting.{IsAtWork}
use Rattle.gr_host.proofs.host.Host.close.Given as goal

abbrev pub invariant-loop : goal.invariant-loop
invariant-loop g l =
    (goal.iterator-loop g).can_next l.iterator' × (goal.iterator-loop g).is_finite l.iterator'
    × IsAtWork l.fn.members l.fn.inboxes l.fn.self l.self []
