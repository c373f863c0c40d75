-- A value that a query matches has what it must have.
use Rattle.std.proofs.Common.{◌≡◌, ◌↔◌, List, [], ◌∷◌, ◌++◌, length, Bool, true, false, Option, Some, None, refl, sym, ap, ◌∙◌}
use Rattle.std.specs.List.{AllByRecursion}
use Rattle.std.specs.Ordering.{is_eq}
use Rattle.std.specs.declared.cmp.Ordering.{Ordering}
use Rattle.std.specs.declared.cmp.Ordering.TheVariants as order
use Rattle.std.proofs.lemmas.Cmp.{int_cmp_total, nat_list_cmp_total, tied_itself}
use Rattle.std.proofs.lemmas.Map.Lookups.{exact_signed, exact_bytes}
use Rattle.gr_value.specs.Fields.{field_of}
use Rattle.gr_value.specs.declared.scalar.Scalar.{Scalar}
use Rattle.gr_value.specs.declared.scalar.Scalar.TheVariants.{Null, Bool as Flag, Int, Text}
use Rattle.gr_value.specs.declared.value.Field.{Field}
use Rattle.gr_oql.specs.declared.condition.Condition.{Condition}
use Rattle.gr_oql.specs.declared.condition.Operand.{Operand}
use Rattle.gr_oql.specs.declared.condition.Operand.TheVariants as operand
use Rattle.gr_oql.specs.declared.condition.Relation.{Relation}
use Rattle.gr_oql.specs.declared.condition.Relation.TheVariants.{Equal, Different, Less, LessOrEqual, Greater, GreaterOrEqual}
use Rattle.gr_oql.specs.declared.condition.Test.{Test}
use Rattle.gr_oql.specs.declared.condition.Test.TheVariants as test_of
use Rattle.gr_oql.specs.declared.must.Must.{Must}
use Rattle.gr_oql.specs.declared.truth.Truth.{Truth}
use Rattle.gr_oql.specs.declared.truth.Truth.TheVariants.{Holds, Fails, Undefined}
use Rattle.gr_oql.specs.Matching.{scalar_at, test_truth, tree_truth, any_truth, all_truth, condition_truth, matches}
use Rattle.gr_oql.specs.Must.{sides_must, related_must, test_must, tree_must, sole_must, each_must, condition_must, must_of, IsMet}
use Rattle.gr_oql.specs.Question.{Question}
use Rattle.gr_oql.specs.Tree.{Tree, any, all, negation, test, Trees, no_trees, tree}
use Rattle.gr_oql.specs.Truth.{and_truth, or_truth, truth_of, compared, both_compared}
use Rattle.gr_oql.specs.View.{trees_of}

-- Of several parts joined by OR, or of none, nothing is said.
pub sole_none : (parts : List Condition) → (length parts ≡ 1 → ⊥) → sole_must (trees_of parts) ≡ []
sole_none [] several = refl
sole_none (c ∷ []) several = absurd (several refl)
sole_none (c ∷ d ∷ parts) several = refl

same_order : (o : Ordering) → truth_of (is_eq o) ≡ Holds → o ≡ order.Equal
same_order order.Less holds = cc
same_order order.Equal holds = refl
same_order order.Greater holds = cc

same_flags : (one two : Bool) → compared Equal (Flag one) (Flag two) ≡ Holds → one ≡ two
same_flags true true holds = refl
same_flags true false holds = cc
same_flags false true holds = cc
same_flags false false holds = refl

-- Scalars that are equal in a query are the same.
same_scalars : (one two : Scalar) → compared Equal one two ≡ Holds → one ≡ two
same_scalars Null Null holds = refl
same_scalars Null (Flag b) holds = cc
same_scalars Null (Int b) holds = cc
same_scalars Null (Text b) holds = cc
same_scalars (Flag a) Null holds = cc
same_scalars (Flag a) (Flag b) holds = ap Flag (same_flags a b holds)
same_scalars (Flag a) (Int b) holds = cc
same_scalars (Flag a) (Text b) holds = cc
same_scalars (Int a) Null holds = cc
same_scalars (Int a) (Flag b) holds = cc
same_scalars (Int a) (Int b) holds = ap Int (exact_signed a b (same_order _ holds))
same_scalars (Int a) (Text b) holds = cc
same_scalars (Text a) Null holds = cc
same_scalars (Text a) (Flag b) holds = cc
same_scalars (Text a) (Int b) holds = cc
same_scalars (Text a) (Text b) holds = ap Text (exact_bytes a b (same_order _ holds))

is_met : (found : Option Scalar) (scalar : Scalar) → both_compared Equal found (Some scalar) ≡ Holds → found ≡ Some scalar
is_met None scalar holds = cc
is_met (Some one) scalar holds = ap (λ (s : Scalar). Some s) (same_scalars one scalar holds)

is_met_back : (found : Option Scalar) (scalar : Scalar) → both_compared Equal (Some scalar) found ≡ Holds → found ≡ Some scalar
is_met_back None scalar holds = cc
is_met_back (Some one) scalar holds = ap (λ (s : Scalar). Some s) (sym (same_scalars scalar one holds))

same_compared : (scalar : Scalar) → compared Equal scalar scalar ≡ Holds
same_compared Null = refl
same_compared (Flag true) = refl
same_compared (Flag false) = refl
same_compared (Int a) = ap (λ (o : Ordering). truth_of (is_eq o)) (tied_itself int_cmp_total a)
same_compared (Text a) = ap (λ (o : Ordering). truth_of (is_eq o)) (tied_itself nat_list_cmp_total a)

pub compared_met : (fields : List Field) (must : Must)
    → both_compared Equal (field_of must.field fields) (Some must.equal) ≡ Holds ↔ IsMet fields must
compared_met fields must =
    (is_met (field_of must.field fields) must.equal, λ met. ap (λ found. both_compared Equal found (Some must.equal)) met ∙ same_compared must.equal)

sides_met : (fields : List Field) (left right : Operand) → both_compared Equal (scalar_at fields left) (scalar_at fields right) ≡ Holds
    → AllByRecursion (IsMet fields) (sides_must left right)
sides_met fields (operand.Field name) (operand.Field other) holds = tt
sides_met fields (operand.Field name) (operand.Literal scalar) holds = (is_met _ scalar holds, tt)
sides_met fields (operand.Literal scalar) (operand.Field name) holds = (is_met_back _ scalar holds, tt)
sides_met fields (operand.Literal scalar) (operand.Literal other) holds = tt

related_met : (fields : List Field) (relation : Relation) (left right : Operand)
    → both_compared relation (scalar_at fields left) (scalar_at fields right) ≡ Holds
    → AllByRecursion (IsMet fields) (related_must relation left right)
related_met fields Equal left right holds = sides_met fields left right holds
related_met fields Different left right holds = tt
related_met fields Less left right holds = tt
related_met fields LessOrEqual left right holds = tt
related_met fields Greater left right holds = tt
related_met fields GreaterOrEqual left right holds = tt

test_met : (fields : List Field) (t : Test) → test_truth fields t ≡ Holds → AllByRecursion (IsMet fields) (test_must t)
test_met fields (test_of.Defined name) holds = tt
test_met fields (test_of.Undefined name) holds = tt
test_met fields (test_of.Like name pattern) holds = tt
test_met fields (test_of.Among operand literals) holds = tt
test_met fields (test_of.Compare left relation right) holds = related_met fields relation left right holds

both_hold : (one two : Truth) → and_truth one two ≡ Holds → (one ≡ Holds) × (two ≡ Holds)
both_hold Holds two holds = (refl, holds)
both_hold Fails two holds = absurd (cc)
both_hold Undefined Holds holds = absurd (cc)
both_hold Undefined Fails holds = absurd (cc)
both_hold Undefined Undefined holds = absurd (cc)

sole_holds : (one : Truth) → or_truth one Fails ≡ Holds → one ≡ Holds
sole_holds Holds holds = refl
sole_holds Fails holds = holds
sole_holds Undefined holds = cc

both_met : (fields : List Field) (one two : List Must) → AllByRecursion (IsMet fields) one → AllByRecursion (IsMet fields) two
    → AllByRecursion (IsMet fields) (one ++ two)
both_met fields [] two first second = second
both_met fields (m ∷ one) two first second = (first.0, both_met fields one two first.1 second)

mutual
  tree_met : (fields : List Field) (t : Tree) → tree_truth fields t ≡ Holds → AllByRecursion (IsMet fields) (tree_must t)
  tree_met fields (any parts) holds = sole_met fields parts holds
  tree_met fields (all parts) holds = each_met fields parts holds
  tree_met fields (negation part) holds = tt
  tree_met fields (test t) holds = test_met fields t holds

  sole_met : (fields : List Field) (parts : Trees) → any_truth fields parts ≡ Holds → AllByRecursion (IsMet fields) (sole_must parts)
  sole_met fields no_trees holds = tt
  sole_met fields (tree part no_trees) holds = tree_met fields part (sole_holds _ holds)
  sole_met fields (tree part (tree other parts)) holds = tt

  each_met : (fields : List Field) (parts : Trees) → all_truth fields parts ≡ Holds → AllByRecursion (IsMet fields) (each_must parts)
  each_met fields no_trees holds = tt
  each_met fields (tree part parts) holds =
      let both = both_hold (tree_truth fields part) (all_truth fields parts) holds in
      both_met fields (tree_must part) (each_must parts) (tree_met fields part both.0) (each_met fields parts both.1)

condition_met : (fields : List Field) (condition : Option Tree) → condition_truth condition fields ≡ Holds
    → AllByRecursion (IsMet fields) (condition_must condition)
condition_met fields None holds = tt
condition_met fields (Some condition) holds = tree_met fields condition holds

pub met : (question : Question) (fields : List Field) → matches question fields ≡ Holds → AllByRecursion (IsMet fields) (must_of question)
met question fields holds = condition_met fields question.asked.condition holds
