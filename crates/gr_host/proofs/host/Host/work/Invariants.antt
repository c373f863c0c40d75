use Rattle.std.proofs.Common.{take}
use Rattle.gr_host.proofs.Hosting.{IsAtWork}
use Rattle.gr_host.proofs.host.Host.work.Given as goal

abbrev pub invariant-loop-place : goal.invariant-loop-place
invariant-loop-place g l = IsAtWork l.fn.members l.fn.inboxes l.fn.self l.self (take l.place l.fn.self.duties)
