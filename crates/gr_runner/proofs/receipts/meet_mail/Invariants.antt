use Rattle.std.specs.Prelude.{vec_len}
use Rattle.gr_runner.proofs.Told.{AllToldUpto}
use Rattle.gr_runner.proofs.receipts.meet_mail.Given as goal

abbrev pub invariant-loop-own : goal.invariant-loop-own
invariant-loop-own l = AllToldUpto l.fn.takes l.takes l.fn.sends.items l.left.items

abbrev pub decreases-loop-own : goal.decreases-loop-own
decreases-loop-own l = vec_len l.left
