use Rattle.gr_script.specs.Scripts.{heading_of}
use Rattle.gr_runner.proofs.Numbered.{MembersSoFar}
use Rattle.gr_runner.proofs.kits.member_kits.Given as goal

abbrev pub invariant-loop-k : goal.invariant-loop-k
invariant-loop-k l =
    MembersSoFar (heading_of l.script) l.script.lines l.fn.sends.inboxes l.sends.inboxes l.sends.sends.items l.sends.takes.items l.k
    l.kits.items
