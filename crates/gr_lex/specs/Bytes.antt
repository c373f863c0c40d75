-- The bytes that tokens are made of.
use Rattle.std.specs.Prelude.{ℕ, ◌+◌, ◌-◌, ◌*◌, ◌^◌, List, [], ◌∷◌, Bool, ◌==◌, ◌||◌, if◌then◌else◌, Option, Some, None}
use Rattle.std.specs.List.{fold}
use Rattle.std.specs.Char.{is_ascii_alphabetic, is_ascii_digit}
use Rattle.gr_lex.specs.declared.token.Symbol.{Symbol}
use Rattle.gr_lex.specs.declared.token.Symbol.TheVariants.{Star, LeftBracket, RightBracket, Comma, Dot, Equal, Angles, BangEqual, Less}
use Rattle.gr_lex.specs.declared.token.Symbol.TheVariants.{LessEqual, Greater, GreaterEqual, Slash, Dollar, Minus}

-- a space or a tab
abbrev pub is_blank : ℕ → Bool
is_blank byte = byte == 0x20 || byte == 0x09

abbrev pub is_letter : ℕ → Bool
is_letter byte = is_ascii_alphabetic byte || byte == 0x5F

abbrev pub is_word_byte : ℕ → Bool
is_word_byte byte = is_letter byte || is_ascii_digit byte

abbrev pub quote : ℕ
quote = 0x27

-- the number that digits spell
abbrev pub number_of : List ℕ → ℕ
number_of digits = fold (λ number digit. number * 10 + (digit - 0x30)) 0 digits

-- A sign before it makes it the least whole number.
abbrev pub greatest_number : ℕ
greatest_number = 2 ^ 63

-- The symbol that begins with a byte, where `next` is the byte after it: the longest one.
abbrev pub symbol_of : ℕ → ℕ → Option Symbol
symbol_of byte next =
    if byte == 0x2A then Some Star
    else (if byte == 0x28 then Some LeftBracket
    else (if byte == 0x29 then Some RightBracket
    else (if byte == 0x2C then Some Comma
    else (if byte == 0x2E then Some Dot
    else (if byte == 0x3D then Some Equal
    else (if byte == 0x3C then Some (if next == 0x3E then Angles else (if next == 0x3D then LessEqual else Less))
    else (if byte == 0x21 then (if next == 0x3D then Some BangEqual else None)
    else (if byte == 0x3E then Some (if next == 0x3D then GreaterEqual else Greater)
    else (if byte == 0x2F then Some Slash
    else (if byte == 0x24 then Some Dollar
    else (if byte == 0x2D then Some Minus
    else None)))))))))))

abbrev pub spelling : Symbol → List ℕ
spelling Star = 0x2A ∷ []
spelling LeftBracket = 0x28 ∷ []
spelling RightBracket = 0x29 ∷ []
spelling Comma = 0x2C ∷ []
spelling Dot = 0x2E ∷ []
spelling Equal = 0x3D ∷ []
spelling Angles = 0x3C ∷ 0x3E ∷ []
spelling BangEqual = 0x21 ∷ 0x3D ∷ []
spelling Less = 0x3C ∷ []
spelling LessEqual = 0x3C ∷ 0x3D ∷ []
spelling Greater = 0x3E ∷ []
spelling GreaterEqual = 0x3E ∷ 0x3D ∷ []
spelling Slash = 0x2F ∷ []
spelling Dollar = 0x24 ∷ []
spelling Minus = 0x2D ∷ []
