-- Truths, and what makes one of two scalars and of other truths.
use Rattle.std.specs.Prelude.{Bool, true, false, not, Option, Some}
use Rattle.std.specs.Ordering.{nat_cmp, int_cmp, is_eq, is_ne, is_lt, is_le, is_gt, is_ge}
use Rattle.std.specs.Cmp.Lexicographic.{slice_cmp}
use Rattle.std.specs.declared.cmp.Ordering.{Ordering}
use mathlib.Core.Bool.{beq}
use Rattle.gr_value.specs.declared.scalar.Scalar.{Scalar}
use Rattle.gr_value.specs.declared.scalar.Scalar.TheVariants.{Null, Bool as Flag, Int, Text}
use Rattle.gr_oql.specs.declared.condition.Relation.{Relation}
use Rattle.gr_oql.specs.declared.condition.Relation.TheVariants.{Equal, Different, Less, LessOrEqual, Greater, GreaterOrEqual}
use Rattle.gr_oql.specs.declared.truth.Truth.{Truth}
use Rattle.gr_oql.specs.declared.truth.Truth.TheVariants.{Holds, Fails, Undefined}

abbrev pub not_truth : Truth → Truth
not_truth Holds = Fails
not_truth Fails = Holds
not_truth Undefined = Undefined

abbrev pub and_truth : Truth → Truth → Truth
and_truth Fails other = Fails
and_truth Holds other = other
and_truth Undefined Fails = Fails
and_truth Undefined other = Undefined

abbrev pub or_truth : Truth → Truth → Truth
or_truth Holds other = Holds
or_truth Fails other = other
or_truth Undefined Holds = Holds
or_truth Undefined other = Undefined

abbrev pub truth_of : Bool → Truth
truth_of true = Holds
truth_of false = Fails

-- two whole numbers or two texts, which have an order
abbrev pub by_order : Relation → Ordering → Truth
by_order Equal order = truth_of (is_eq order)
by_order Different order = truth_of (is_ne order)
by_order Less order = truth_of (is_lt order)
by_order LessOrEqual order = truth_of (is_le order)
by_order Greater order = truth_of (is_gt order)
by_order GreaterOrEqual order = truth_of (is_ge order)

-- two scalars that have no order, and of which it is known whether they are the same
abbrev pub by_sameness : Relation → Bool → Truth
by_sameness Equal same = truth_of same
by_sameness Different same = truth_of (not same)
by_sameness relation same = Undefined

-- Whole numbers go by their value, texts by their bytes. Null is the same as itself alone. Other scalars of
-- unlike kinds don't compare.
abbrev pub compared : Relation → Scalar → Scalar → Truth
compared relation (Int one) (Int two) = by_order relation (int_cmp one two)
compared relation (Text one) (Text two) = by_order relation (slice_cmp nat_cmp one two)
compared relation (Flag one) (Flag two) = by_sameness relation (beq one two)
compared relation Null Null = by_sameness relation true
compared relation Null other = by_sameness relation false
compared relation other Null = by_sameness relation false
compared relation one two = Undefined

-- what isn't there compares with nothing
abbrev pub both_compared : Relation → Option Scalar → Option Scalar → Truth
both_compared relation (Some one) (Some two) = compared relation one two
both_compared relation one two = Undefined
