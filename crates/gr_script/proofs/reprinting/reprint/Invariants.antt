use Rattle.std.proofs.Common.{length}
use Rattle.gr_script.specs.Taken.{ahead}
use Rattle.gr_script.proofs.PrintedAsRead.{IsReprinting}
use Rattle.gr_script.proofs.WhileRead.{left}
use Rattle.gr_script.proofs.reprinting.reprint.Given as goal

abbrev pub invariant-loop-next : goal.invariant-loop-next
invariant-loop-next l = IsReprinting l.text l.feed l.next l.out.items

abbrev pub decreases-loop-next : goal.decreases-loop-next
decreases-loop-next l = left l.next (length (ahead l.feed))
