-- What was found so far, with what the parts behind say, is what all say.
use Rattle.std.proofs.Common.{◌≡◌, drop}
use Rattle.gr_oql.specs.Matching.{tree_truth, any_truth, all_truth}
use Rattle.gr_oql.specs.Truth.{and_truth, or_truth}
use Rattle.gr_oql.specs.View.{tree_of, trees_of}
use Rattle.gr_oql.proofs.condition.Condition.+truth.Given as goal

abbrev pub invariant-loop-part : goal.invariant-loop-part
invariant-loop-part l = or_truth l.found (any_truth l.value (trees_of (drop l.part-index l.part-items)))
    ≡ tree_truth l.value (tree_of l.self)

abbrev pub invariant-loop-part-2 : goal.invariant-loop-part-2
invariant-loop-part-2 l = and_truth l.found (all_truth l.value (trees_of (drop l.part-index l.part-items)))
    ≡ tree_truth l.value (tree_of l.self)
