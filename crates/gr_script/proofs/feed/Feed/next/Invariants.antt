use Rattle.std.proofs.Common.{length}
use Rattle.gr_script.specs.Taken.{ahead}
use Rattle.gr_script.proofs.Feeding.{IsPassed}
use Rattle.gr_script.proofs.feed.Feed.next.Given as goal

abbrev pub invariant-loop-ahead : goal.invariant-loop-ahead
invariant-loop-ahead l = IsPassed l.fn.self l.self-inside.past

abbrev pub decreases-loop-ahead : goal.decreases-loop-ahead
decreases-loop-ahead l = length (ahead l.self-inside.past)
