-- The clients' own entries: how many they are, and the sum of their numbers.
use Rattle.std.specs.Prelude.{ℕ, List, ◌++◌, length, codes, Bool, nat_eq, flat_map, filter, Option, Some}
use Rattle.std.specs.Prelude.{ℤ, pos, ◌+ℤ◌, fold}
use Rattle.std.specs.Fmt.{signed_decimal}
use Rattle.std.specs.List.{starts_with}
use Rattle.gr_value.specs.declared.scalar.Scalar.{Scalar}
use Rattle.gr_value.specs.declared.scalar.Scalar.TheVariants.{Int}
use Rattle.gr_value.specs.declared.value.Field.{Field}
use Rattle.gr_value.specs.Fields.{field_of}
use Rattle.gr_stamp.specs.declared.change.Change.{Change}
use Rattle.gr_stamp.specs.declared.change.Kind.{Kind}
use Rattle.gr_stamp.specs.declared.change.Kind.TheVariants.{Put, Invalid, Remove}
use Rattle.gr_history.specs.declared.record.ShardRecord.{ShardRecord}
use Rattle.gr_report.specs.Regions.{counted}

-- The key of an own entry begins with c.
abbrev pub is_own : Change → Bool
is_own row = starts_with nat_eq row.key (codes "c")

-- the own rows of all shards of a member
abbrev pub own_rows : List ShardRecord → List Change
own_rows shards = filter is_own (flat_map (λ shard. shard.region.rows) shards)

-- A whole number counts as itself, and all else as nothing.
abbrev pub whole_number : Option Scalar → ℤ
whole_number (Some (Int number)) = number
whole_number _ = pos 0

-- what the field n counts as
abbrev pub number_in : List Field → ℤ
number_in value = whole_number (field_of (codes "n") value)

-- An entry without a value has no field, and so counts as nothing.
abbrev pub kind_number : Kind → ℤ
kind_number (Put value) = number_in value
kind_number Invalid = pos 0
kind_number Remove = pos 0

abbrev pub row_number : Change → ℤ
row_number row = kind_number row.kind

abbrev pub sum_of : List ℤ → ℤ
sum_of numbers = fold ◌+ℤ◌ (pos 0) numbers

unfoldable pub sum_text : List ℤ → List ℕ
sum_text numbers = codes " sum " ++ signed_decimal (sum_of numbers)

-- how many there are, and their sum
unfoldable pub own_line : List ℤ → List ℕ
own_line numbers = counted (codes "own entries ") (length numbers) ++ sum_text numbers ++ codes "\n"
