-- The fields that a value must have, and the scalars that they must be, where a query matches it.
use Rattle.std.specs.Prelude.{◌≡◌, List, [], ◌∷◌, ◌++◌, Option, Some, None}
use Rattle.gr_value.specs.Fields.{field_of}
use Rattle.gr_value.specs.declared.value.Field.{Field}
use Rattle.gr_oql.specs.declared.condition.Operand.{Operand}
use Rattle.gr_oql.specs.declared.condition.Operand.TheVariants as operand
use Rattle.gr_oql.specs.declared.condition.Relation.{Relation}
use Rattle.gr_oql.specs.declared.condition.Relation.TheVariants.{Equal}
use Rattle.gr_oql.specs.declared.condition.Test.{Test}
use Rattle.gr_oql.specs.declared.condition.Test.TheVariants as test_of
use Rattle.gr_oql.specs.declared.must.Must.{Must}
use Rattle.gr_oql.specs.Question.{Question}
use Rattle.gr_oql.specs.Tree.{Tree, any, all, negation, test, Trees, no_trees, tree}

-- a field beside a literal, on either side
abbrev pub sides_must : Operand → Operand → List Must
sides_must (operand.Field name) (operand.Literal scalar) = record { field = name; equal = scalar } ∷ []
sides_must (operand.Literal scalar) (operand.Field name) = record { field = name; equal = scalar } ∷ []
sides_must left right = []

abbrev pub related_must : Relation → Operand → Operand → List Must
related_must Equal left right = sides_must left right
related_must relation left right = []

abbrev pub test_must : Test → List Must
test_must (test_of.Compare left relation right) = related_must relation left right
test_must other = []

abbrev mutual
  pub tree_must : Tree → List Must
  tree_must (any parts) = sole_must parts
  tree_must (all parts) = each_must parts
  tree_must (negation part) = []
  tree_must (test t) = test_must t

  -- A part that nothing is joined to by OR stands for itself.
  pub sole_must : Trees → List Must
  sole_must no_trees = []
  sole_must (tree part no_trees) = tree_must part
  sole_must (tree part (tree other parts)) = []

  -- of parts joined by AND, from left to right
  pub each_must : Trees → List Must
  each_must no_trees = []
  each_must (tree part parts) = tree_must part ++ each_must parts

abbrev pub condition_must : Option Tree → List Must
condition_must None = []
condition_must (Some condition) = tree_must condition

abbrev pub must_of : Question → List Must
must_of question = condition_must question.asked.condition

-- The field is there, and is that scalar.
abbrev pub IsMet : List Field → Must → Type 0
IsMet fields must = field_of must.field fields ≡ Some must.equal
