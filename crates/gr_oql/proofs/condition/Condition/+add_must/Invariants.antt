-- What was found, with what the parts behind say, is what all say.
use Rattle.std.proofs.Common.{◌≡◌, ◌++◌, drop}
use Rattle.gr_oql.specs.Must.{each_must, tree_must}
use Rattle.gr_oql.specs.View.{tree_of, trees_of}
use Rattle.gr_oql.proofs.condition.Condition.+add_must.Given as goal

abbrev pub invariant-loop-part : goal.invariant-loop-part
invariant-loop-part l = l.found ++ each_must (trees_of (drop l.part-index l.part-items)) ≡ l.fn.found ++ tree_must (tree_of l.self)
