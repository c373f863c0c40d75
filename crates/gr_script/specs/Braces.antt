-- Where the text of a value ends, said by its braces: they are in balance, but for those in strings.
use Rattle.std.specs.Prelude.{◌≡◌, ℕ, List, [], ◌∷◌, ◌++◌, Bool, true, ◌&&◌, ◌==◌, not}
use Rattle.std.specs.List.{list_all}

-- what a string has: a byte, or a backslash and any byte
pub data Mark : Type 0 where
  Plain : ℕ → Mark
  Escaped : ℕ → Mark

abbrev pub mark_text : Mark → List ℕ
mark_text (Plain byte) = byte ∷ []
mark_text (Escaped byte) = 0x5C ∷ byte ∷ []

abbrev pub marks_text : List Mark → List ℕ
marks_text [] = []
marks_text (mark ∷ rest) = mark_text mark ++ marks_text rest

-- a byte by itself is no quote and no backslash
abbrev pub is_mark : Mark → Bool
is_mark (Plain byte) = not (byte == 0x22) && not (byte == 0x5C)
is_mark (Escaped byte) = true

-- a text that begins with nothing, a byte, a string, or a text in braces
pub data Balanced : Type 0 where
  Ended : Balanced
  Byte : ℕ → Balanced → Balanced
  String : List Mark → Balanced → Balanced
  Braces : Balanced → Balanced → Balanced

abbrev pub balanced_text : Balanced → List ℕ
balanced_text Ended = []
balanced_text (Byte byte rest) = byte ∷ balanced_text rest
balanced_text (String marks rest) = 0x22 ∷ (marks_text marks ++ 0x22 ∷ balanced_text rest)
balanced_text (Braces inner rest) = 0x7B ∷ (balanced_text inner ++ 0x7D ∷ balanced_text rest)

-- outside strings a byte is no brace and no quote
abbrev pub is_outside : ℕ → Bool
is_outside byte = not (byte == 0x7B) && (not (byte == 0x7D) && not (byte == 0x22))

abbrev pub is_balanced : Balanced → Bool
is_balanced Ended = true
is_balanced (Byte byte rest) = is_outside byte && is_balanced rest
is_balanced (String marks rest) = list_all is_mark marks && is_balanced rest
is_balanced (Braces inner rest) = is_balanced inner && is_balanced rest

-- one text in braces
pub record IsBraced (text : List ℕ) : Type 0 where
  pub inner : Balanced
  pub balanced : is_balanced inner ≡ true
  pub text_is : text ≡ 0x7B ∷ (balanced_text inner ++ 0x7D ∷ [])
