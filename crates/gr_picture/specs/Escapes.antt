-- How a text stands inside an element of a picture, and inside the quotes of an attribute.
use Rattle.std.specs.Prelude.{ℕ, Bool, List, ◌&&◌, codes, chars, flat_map, encode_utf8, nat_eq, nat_lt, ◌||◌, if◌then◌else◌}

-- the characters that XML can't have: control characters, and the last two of the first plane
abbrev pub is_barred : ℕ → Bool
is_barred letter = nat_lt letter 0x20 || (nat_eq letter 0xFFFE || nat_eq letter 0xFFFF)

-- Of a character, `&` (38), `<` (60) and `>` (62) are spelled out, inside quotes the quote (34) too, and U+FFFD stands for
-- one that XML can't have.
abbrev pub escaped_letter : Bool → ℕ → List ℕ
escaped_letter quoted letter =
    if nat_eq letter 38 then codes "&amp;"
    else (if nat_eq letter 60 then codes "&lt;"
    else (if nat_eq letter 62 then codes "&gt;"
    else (if quoted && nat_eq letter 34 then codes "&quot;"
    else (if is_barred letter then encode_utf8 0xFFFD else encode_utf8 letter))))

-- Of a text, each character in turn.
abbrev pub escaped : Bool → List ℕ → List ℕ
escaped quoted text = flat_map (escaped_letter quoted) (chars text)
