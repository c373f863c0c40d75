-- The text of a value: JSON with no spaces, and with the shortest escapes.
use Rattle.std.specs.Prelude.{ℕ, ◌/◌, ◌%◌, List, [], ◌∷◌, ◌++◌, true, false, codes, flat_map, nat_lt, if◌then◌else◌, ◌==◌}
use Rattle.std.specs.Char.{digit_char}
use Rattle.std.specs.Fmt.{signed_decimal}
use Rattle.std.specs.List.{join_by}
use Rattle.gr_value.specs.declared.scalar.Scalar.{Scalar}
use Rattle.gr_value.specs.declared.scalar.Scalar.TheVariants.{Null, Bool, Int, Text}
use Rattle.gr_value.specs.declared.value.Field.{Field}

-- what stands for a byte in a quoted text
unfoldable pub escaped : ℕ → List ℕ
escaped byte =
    if byte == 0x22 then codes "\\\""
    else (if byte == 0x5C then codes "\\\\"
    else (if byte == 0x08 then codes "\\b"
    else (if byte == 0x09 then codes "\\t"
    else (if byte == 0x0A then codes "\\n"
    else (if byte == 0x0C then codes "\\f"
    else (if byte == 0x0D then codes "\\r"
    else (if nat_lt byte 0x20 then codes "\\u00" ++ digit_char (byte / 16) ∷ digit_char (byte % 16) ∷ []
    else byte ∷ [])))))))

abbrev pub quoted : List ℕ → List ℕ
quoted text = codes "\"" ++ (flat_map escaped text ++ codes "\"")

abbrev pub scalar_text : Scalar → List ℕ
scalar_text Null = codes "null"
scalar_text (Bool true) = codes "true"
scalar_text (Bool false) = codes "false"
scalar_text (Int number) = signed_decimal number
scalar_text (Text text) = quoted text

abbrev pub field_text : Field → List ℕ
field_text field = quoted field.name ++ (codes ":" ++ scalar_text field.scalar)

unfoldable pub value_text : List Field → List ℕ
value_text fields = codes "{" ++ (join_by field_text (codes ",") fields ++ codes "}")
