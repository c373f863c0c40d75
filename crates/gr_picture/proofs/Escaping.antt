-- A text that is escaped, character by character.
use Rattle.std.proofs.Common.{◌≡◌, ℕ, Bool, List, [], ◌++◌, length, encode_utf8, IsUtf8, refl}
use Rattle.std.proofs.lemmas.Str.{chars_past_char, chars-nil}
use Rattle.std.proofs.lemmas.List.{nil_from_length}
use Rattle.gr_picture.specs.Escapes.{escaped, escaped_letter}

pub escaped_empty : (quoted : Bool) (text : List ℕ) → length text ≡ 0 → escaped quoted text ≡ []
escaped_empty quoted text none = rw (nil_from_length text none, chars-nil) refl

pub escaped_step : (quoted : Bool) (text rest : List ℕ) (c : ℕ) → IsUtf8 text → text ≡ encode_utf8 c ++ rest
    → escaped quoted text ≡ escaped_letter quoted c ++ escaped quoted rest
escaped_step quoted text rest c utf8 parts = rw (chars_past_char text rest c utf8 parts) refl
