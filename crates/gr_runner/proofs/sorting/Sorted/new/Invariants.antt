use Rattle.std.specs.Prelude.{vec_len}
use Rattle.gr_runner.proofs.Apart.{IsSorted}
use Rattle.gr_runner.proofs.sorting.Sorted.new.Given as goal

abbrev pub invariant-loop-one : goal.invariant-loop-one
invariant-loop-one l = IsSorted l.fn.news.items l.left.items l.sorted

abbrev pub decreases-loop-one : goal.decreases-loop-one
decreases-loop-one l = vec_len l.left
