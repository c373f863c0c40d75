-- The tree that a condition stands for.
use Rattle.std.specs.Prelude.{List, [], ◌∷◌, map}
use Rattle.gr_oql.specs.Tree.{Tree, any, all, negation, test, Trees, no_trees, tree}
use Rattle.gr_oql.specs.declared.condition.Condition.{Condition, fold-Condition}
use Rattle.gr_oql.specs.declared.condition.Condition.TheOpen.{Condition-F}

abbrev pub in_order : List Tree → Trees
in_order [] = no_trees
in_order (t ∷ ts) = tree t (in_order ts)

-- one level, with each condition inside already seen as its tree
abbrev pub view_step : Condition-F Tree → Tree
view_step (Condition-F.Any parts) = any (in_order parts.items)
view_step (Condition-F.All parts) = all (in_order parts.items)
view_step (Condition-F.Not part) = negation part.value
view_step (Condition-F.Test t) = test t

abbrev pub tree_of : Condition → Tree
tree_of = fold-Condition Tree view_step

abbrev pub trees_of : List Condition → Trees
trees_of conditions = in_order (map tree_of conditions)
