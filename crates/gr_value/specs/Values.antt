-- What every value keeps.
use Rattle.std.specs.Prelude.{◌≤◌, ℕ, List, length, map, FitsSigned, IsTrue, ⊤}
use Rattle.std.specs.Cmp.Lexicographic.{slice_cmp}
use Rattle.std.specs.Int.{w64}
use Rattle.std.specs.List.{AllByRecursion}
use Rattle.std.specs.List.Sorted.{IsStrictlySortedBy}
use Rattle.std.specs.Ordering.{nat_cmp}
use Rattle.std.specs.Str.{is_utf8}
use Rattle.gr_value.specs.declared.scalar.Scalar.{Scalar}
use Rattle.gr_value.specs.declared.scalar.Scalar.TheVariants.{Null, Bool, Int, Text}
use Rattle.gr_value.specs.declared.value.Field.{Field}
use Rattle.gr_value.specs.ValueText.{value_text}

-- A text is UTF-8, and a number has 64 bits with a sign.
abbrev pub IsScalar : Scalar → Type 0
IsScalar Null = ⊤
IsScalar (Bool _) = ⊤
IsScalar (Int number) = FitsSigned w64 number
IsScalar (Text text) = IsTrue (is_utf8 text)

abbrev pub IsField : Field → Type 0
IsField field = IsTrue (is_utf8 field.name) × IsScalar field.scalar

-- The names ascend by their bytes, so that none stands twice.
abbrev pub HasAscendingNames : List Field → Type 0
HasAscendingNames fields = IsStrictlySortedBy (slice_cmp nat_cmp) (map (λ field. field.name) fields)

abbrev pub most_value_bytes : ℕ
most_value_bytes = 1024

-- The text of a value has at most so many bytes.
pub record IsValue (fields : List Field) : Type 0 where
  pub ascending : HasAscendingNames fields
  pub readable : AllByRecursion IsField fields
  pub short : length (value_text fields) ≤ most_value_bytes
