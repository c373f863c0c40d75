-- When two scalars are the same.
use Rattle.std.specs.Prelude.{Bool, true, false, bytes_eq}
use Rattle.std.specs.Ordering.{int_eq}
use mathlib.Core.Bool.{beq}
use Rattle.gr_value.specs.declared.scalar.Scalar.{Scalar}
use Rattle.gr_value.specs.declared.scalar.Scalar.TheVariants.{Null, Bool as Truth, Int, Text}

abbrev pub scalar_eq : Scalar → Scalar → Bool
scalar_eq Null Null = true
scalar_eq (Truth one) (Truth two) = beq one two
scalar_eq (Int one) (Int two) = int_eq one two
scalar_eq (Text one) (Text two) = bytes_eq one two
scalar_eq _ _ = false
