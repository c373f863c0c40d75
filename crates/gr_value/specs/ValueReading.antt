-- Which value a text is, or why it is none.
use Rattle.std.specs.Prelude.{◌≡◌, ◌⊎◌, ℕ, ◌+◌, List, [], ◌∷◌, length, nat_lt, if◌then◌else◌, Option, Some, None, Result, Ok, Err}
use Rattle.std.specs.Prelude.{option_map}
use Rattle.std.specs.Option.{ok_or}
use Rattle.std.specs.Str.{is_utf8}
use Rattle.serde_json.specs.Data.{Data, null, boolean, number, string, array, object, Members, no_members, member}
use Rattle.serde_json.specs.Find.{as_i64}
use Rattle.serde_json.specs.Read.{read}
use Rattle.gr_value.specs.declared.fault.ValueFault.{ValueFault}
use Rattle.gr_value.specs.declared.fault.ValueFault.TheVariants.{TooLong, NotJson, NotObject, Nested, NotWhole, Memory}
use Rattle.gr_value.specs.declared.scalar.Scalar.{Scalar}
use Rattle.gr_value.specs.declared.scalar.Scalar.TheVariants.{Null, Bool as Truth, Int, Text}
use Rattle.gr_value.specs.declared.value.Field.{Field}
use Rattle.gr_value.specs.Values.{most_value_bytes}

-- the scalar that the member at this place holds
abbrev pub scalar_at : ℕ → Data → Result Scalar ValueFault
scalar_at place null = Ok Null
scalar_at place (boolean truth) = Ok (Truth truth)
scalar_at place (number n) = ok_or (option_map Int (as_i64 n)) (NotWhole place)
scalar_at place (string text) = Ok (Text text)
scalar_at place (array _) = Err (Nested place)
scalar_at place (object _) = Err (Nested place)

-- a field before others, unless it is at fault or they are
abbrev pub with_field : List ℕ → Result Scalar ValueFault → Result (List Field) ValueFault → Result (List Field) ValueFault
with_field name (Err fault) rest = Err fault
with_field name (Ok scalar) (Err fault) = Err fault
with_field name (Ok scalar) (Ok fields) = Ok (record { name = name; scalar = scalar } ∷ fields)

-- The fields that members are, of which the first has this place.
abbrev pub fields_from : ℕ → Members → Result (List Field) ValueFault
fields_from place no_members = Ok []
fields_from place (member name json rest) = with_field name (scalar_at place json) (fields_from (place + 1) rest)

-- JSON has each name of an object once, in order, with the last member of that name.
abbrev pub value_of : Option Data → Result (List Field) ValueFault
value_of None = Err NotJson
value_of (Some null) = Err NotObject
value_of (Some (boolean _)) = Err NotObject
value_of (Some (number _)) = Err NotObject
value_of (Some (string _)) = Err NotObject
value_of (Some (array _)) = Err NotObject
value_of (Some (object found)) = fields_from 0 found

-- the JSON that bytes are
abbrev pub json_of : List ℕ → Option Data
json_of bytes = if is_utf8 bytes then read bytes else None

unfoldable pub read_value : List ℕ → Result (List Field) ValueFault
read_value bytes = if nat_lt most_value_bytes (length bytes) then Err TooLong else value_of (json_of bytes)

-- What was answered is the fault, or memory was refused.
abbrev pub RefusedAs : ValueFault → Result (List Field) ValueFault → Type 0
RefusedAs fault outcome = (fault ≡ Memory) ⊎ (outcome ≡ Err fault)
