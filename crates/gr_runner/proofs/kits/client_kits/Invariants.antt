use Rattle.gr_script.specs.Scripts.{heading_of}
use Rattle.gr_runner.proofs.Numbered.{ClientsSoFar}
use Rattle.gr_runner.proofs.kits.client_kits.Given as goal

abbrev pub invariant-loop-k : goal.invariant-loop-k
invariant-loop-k l =
    ClientsSoFar (heading_of l.script) l.script.lines l.fn.sends.inboxes l.sends.inboxes l.sends.sends.items l.each.items l.k
    l.kits.items
