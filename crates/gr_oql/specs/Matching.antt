-- What a condition says of the fields of a value.
use Rattle.std.specs.Prelude.{ℕ, List, [], ◌∷◌, Option, Some, None, is_some, is_none}
use Rattle.std.specs.Str.{chars}
use Rattle.gr_value.specs.Fields.{field_of}
use Rattle.gr_value.specs.declared.scalar.Scalar.{Scalar}
use Rattle.gr_value.specs.declared.scalar.Scalar.TheVariants.{Text}
use Rattle.gr_value.specs.declared.value.Field.{Field}
use Rattle.gr_oql.specs.declared.condition.Operand.{Operand}
use Rattle.gr_oql.specs.declared.condition.Operand.TheVariants as operand
use Rattle.gr_oql.specs.declared.condition.Relation.TheVariants.{Equal}
use Rattle.gr_oql.specs.declared.condition.Test.{Test}
use Rattle.gr_oql.specs.declared.condition.Test.TheVariants as test_of
use Rattle.gr_oql.specs.declared.truth.Truth.{Truth}
use Rattle.gr_oql.specs.declared.truth.Truth.TheVariants.{Holds, Fails, Undefined}
use Rattle.gr_oql.specs.Like.{is_like}
use Rattle.gr_oql.specs.Question.{Question}
use Rattle.gr_oql.specs.Tree.{Tree, any, all, negation, test, Trees, no_trees, tree}
use Rattle.gr_oql.specs.Truth.{not_truth, and_truth, or_truth, truth_of, both_compared}

-- the scalar that an operand stands for, where there is one
abbrev pub scalar_at : List Field → Operand → Option Scalar
scalar_at fields (operand.Field name) = field_of name fields
scalar_at fields (operand.Literal scalar) = Some scalar

-- only a text can be like a pattern
abbrev pub like_truth : Option Scalar → List ℕ → Truth
like_truth (Some (Text text)) pattern = truth_of (is_like (chars pattern) (chars text))
like_truth other pattern = Undefined

-- that a scalar is the same as one of the literals
abbrev pub among : Option Scalar → List Scalar → Truth
among scalar [] = Fails
among scalar (literal ∷ literals) = or_truth (both_compared Equal scalar (Some literal)) (among scalar literals)

abbrev pub test_truth : List Field → Test → Truth
test_truth fields (test_of.Defined name) = truth_of (is_some (field_of name fields))
test_truth fields (test_of.Undefined name) = truth_of (is_none (field_of name fields))
test_truth fields (test_of.Like name pattern) = like_truth (field_of name fields) pattern
test_truth fields (test_of.Among operand literals) = among (scalar_at fields operand) literals
test_truth fields (test_of.Compare left relation right) = both_compared relation (scalar_at fields left) (scalar_at fields right)

abbrev mutual
  pub tree_truth : List Field → Tree → Truth
  tree_truth fields (any parts) = any_truth fields parts
  tree_truth fields (all parts) = all_truth fields parts
  tree_truth fields (negation part) = not_truth (tree_truth fields part)
  tree_truth fields (test t) = test_truth fields t

  -- of parts joined by OR
  pub any_truth : List Field → Trees → Truth
  any_truth fields no_trees = Fails
  any_truth fields (tree part parts) = or_truth (tree_truth fields part) (any_truth fields parts)

  -- of parts joined by AND
  pub all_truth : List Field → Trees → Truth
  all_truth fields no_trees = Holds
  all_truth fields (tree part parts) = and_truth (tree_truth fields part) (all_truth fields parts)

-- A query without a condition holds of every value.
abbrev pub condition_truth : Option Tree → List Field → Truth
condition_truth None fields = Holds
condition_truth (Some condition) fields = tree_truth fields condition

abbrev pub matches : Question → List Field → Truth
matches question fields = condition_truth question.asked.condition fields
