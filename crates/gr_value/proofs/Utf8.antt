-- Which bytes are UTF-8.
use Rattle.std.proofs.Common.{◌≡◌, true, String, Global, string_bytes, ℕ, ◌+◌, ◌<◌, ◌≤◌}
use Rattle.std.proofs.Common.{List, [], ◌∷◌, length, take, get_or, subst, sym, IsUtf8}
use Rattle.std.specs.List.{All}
use Rattle.std.specs.Prelude.{IsTrue}
use Rattle.std.specs.Str.{is_utf8}
use Rattle.std.proofs.lemmas.List.{take_more, take_all}
use Rattle.std.proofs.lemmas.List.Elements.{All-nil, All-cons, All-append}
use Rattle.std.proofs.lemmas.Str.{is_utf8-from_IsUtf8, IsUtf8-string_bytes, IsUtf8-from_ascii}
use Rattle.std.proofs.lemmas.Str.Ascii.{IsAscii-from_all}

-- A `String` is.
pub is_utf8-string_bytes : (text : String Global) → is_utf8 (string_bytes text) ≡ true
is_utf8-string_bytes text = is_utf8-from_IsUtf8 _ (IsUtf8-string_bytes text)

abbrev Low : ℕ → Type 0
Low byte = byte < 128

-- one more byte of ASCII, and all of them
pub ascii_more : (bytes : List ℕ) (i : ℕ) → i < length bytes → All (λ byte. byte < 128) (take i bytes) → get_or bytes i 0 < 128
    → All (λ byte. byte < 128) (take (i + 1) bytes)
ascii_more bytes i within so_far low =
    subst (All Low) (sym (take_more bytes i 0 within))
    (All-append Low (take i bytes) (get_or bytes i 0 ∷ []) so_far (All-cons Low (get_or bytes i 0) [] low (All-nil Low)))

pub ascii_all : (bytes : List ℕ) (i : ℕ) → length bytes ≤ i → All (λ byte. byte < 128) (take i bytes) → All (λ byte. byte < 128) bytes
ascii_all bytes i whole so_far = subst (All Low) (take_all i bytes whole) so_far

pub ascii_is : (bytes : List ℕ) → All (λ byte. byte < 128) bytes → IsTrue (is_utf8 bytes)
ascii_is bytes all = is_utf8-from_IsUtf8 bytes (IsUtf8-from_ascii bytes (IsAscii-from_all bytes all))

pub tested_is : (bytes : List ℕ) → IsUtf8 bytes → IsTrue (is_utf8 bytes)
tested_is bytes is = is_utf8-from_IsUtf8 bytes is
