-- A value as the list of its fields.
use Rattle.std.specs.Prelude.{ℕ, ◌&&◌, List, Bool, bytes_eq, find, Option, option_map}
use Rattle.std.specs.Cmp.Lexicographic.{pointwise}
use Rattle.gr_value.specs.declared.scalar.Scalar.{Scalar}
use Rattle.gr_value.specs.declared.value.Field.{Field}
use Rattle.gr_value.specs.Scalars.{scalar_eq}

-- the scalar of the field with this name
abbrev pub field_of : List ℕ → List Field → Option Scalar
field_of name fields = option_map (λ field. field.scalar) (find (λ field. bytes_eq field.name name) fields)

abbrev pub field_eq : Field → Field → Bool
field_eq one two = bytes_eq one.name two.name && scalar_eq one.scalar two.scalar

-- whether two values have the same fields
abbrev pub value_eq : List Field → List Field → Bool
value_eq = pointwise field_eq
