use Rattle.std.specs.Prelude.{length}
use Rattle.gr_runner.proofs.Told.{ToldUpto}
use Rattle.gr_runner.proofs.receipts.meet_sender.Given as goal

abbrev pub invariant-loop-pass : goal.invariant-loop-pass
invariant-loop-pass l = ToldUpto l.fn.takes l.takes l.fn.own l.left

abbrev pub decreases-loop-pass : goal.decreases-loop-pass
decreases-loop-pass l = length l.left
