-- Reading a value by the JSON of its bytes.
use Rattle.std.proofs.Common.{◌≡◌, ◌∙◌, ap, ℕ, ◌<◌, ◌≤◌, arith, List, length, Bool, true, false, Some, None, Ok, Err, refl, lt-ltb, le-ltb}
use Rattle.std.proofs.Common.{IsUtf8}
use Rattle.std.proofs.lemmas.Str.{IsUtf8-from_is_utf8, is_utf8-from_IsUtf8}
use Rattle.std.specs.List.{AllByRecursion}
use Rattle.std.specs.Str.{is_utf8}
use Rattle.serde_json.specs.Data.{Data}
use Rattle.serde_json.specs.Read.{read}
use Rattle.gr_value.specs.declared.fault.ValueFault.TheVariants.{TooLong, NotJson}
use Rattle.gr_value.specs.ValueReading.{json_of, value_of, read_value}
use Rattle.gr_value.specs.ValueText.{value_text}
use Rattle.gr_value.specs.Values.{IsField, HasAscendingNames}
use Rattle.gr_value.specs.declared.value.Field.{Field}
use Rattle.gr_value.proofs.RoundTrip.{value_read_back}

pub too_long : (bytes : List ℕ) → 1024 < length bytes → read_value bytes ≡ Err TooLong
unfolding read_value
too_long bytes h = rw (lt-ltb 1024 (length bytes) h) refl

pub by_json : (bytes : List ℕ) (found : Data) → length bytes ≤ 1024 → IsUtf8 bytes → read bytes ≡ Some found
    → read_value bytes ≡ value_of (Some found)
unfolding read_value
by_json bytes found h utf8 is = rw (le-ltb 1024 (length bytes) h, is_utf8-from_IsUtf8 bytes utf8, is) refl

no_json : (bytes : List ℕ) (utf8 : Bool) → is_utf8 bytes ≡ utf8 → (IsUtf8 bytes → read bytes ≡ None) → json_of bytes ≡ None
no_json bytes true e h = rw (e, h (IsUtf8-from_is_utf8 bytes e)) refl
no_json bytes false e h = rw e refl

pub not_json : (bytes : List ℕ) → length bytes ≤ 1024 → (IsUtf8 bytes → read bytes ≡ None) → read_value bytes ≡ Err NotJson
unfolding read_value
not_json bytes h none = rw (le-ltb 1024 (length bytes) h, no_json bytes _ refl none) refl

-- a text that is just what the fields print
pub printed : (bytes : List ℕ) (fields : List Field) → length bytes ≤ 1024 → bytes ≡ value_text fields → HasAscendingNames fields
    → AllByRecursion IsField fields → read_value bytes ≡ Ok fields
printed bytes fields short e ascending readable = ap read_value e
    ∙ value_read_back fields (record { ascending = ascending; readable = readable; short = omega (arith, ap length e) })
