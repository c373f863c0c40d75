-- How the code reads: the tokens of a text, or its first fault from the left.
use Rattle.std.specs.Prelude.{◌≡◌, ℕ, zero, suc, ◌+◌, ◌-◌, ◌<◌, ◌≤◌, List, [], ◌∷◌, length, get_or, ◌==◌, nat_le, if◌then◌else◌, Option}
use Rattle.std.specs.Prelude.{Some, None, option_map, Result, Ok, Err}
use Rattle.std.specs.List.{prefix_len, take_while}
use Rattle.std.specs.Char.{is_ascii_digit}
use Rattle.gr_lex.specs.declared.token.Symbol.{Symbol}
use Rattle.gr_lex.specs.declared.token.TokenKind.{TokenKind}
use Rattle.gr_lex.specs.declared.token.TokenKind.TheVariants as kind
use Rattle.gr_lex.specs.declared.token.Token.{Token}
use Rattle.gr_lex.specs.declared.fault.LexFault.{LexFault}
use Rattle.gr_lex.specs.declared.fault.LexFault.TheVariants.{BadCharacter, OpenText, NumberTooLarge, Memory}
use Rattle.gr_lex.specs.Bytes.{is_blank, is_letter, is_word_byte, quote, number_of, greatest_number, symbol_of, spelling}

abbrev pub spanning : TokenKind → ℕ → ℕ → Token
spanning kind start len = record { kind = kind; start = start; end = start + len }

abbrev mutual
  -- How many bytes a quoted text has behind its first quote. A doubled quote is one quote inside; none where no quote ends it.
  pub quoted_len : List ℕ → Option ℕ
  quoted_len [] = None
  quoted_len (b ∷ bs) = if b == quote then behind_quote bs else option_map suc (quoted_len bs)

  pub behind_quote : List ℕ → Option ℕ
  behind_quote [] = Some 1
  behind_quote (b ∷ bs) = if b == quote then option_map (λ len. suc (suc len)) (quoted_len bs) else Some 1

abbrev pub number_at : ℕ → List ℕ → Result Token LexFault
number_at start digits =
    if nat_le (number_of digits) greatest_number then Ok (spanning (kind.Number (number_of digits)) start (length digits))
    else Err (NumberTooLarge start)

abbrev pub quoted_at : ℕ → Option ℕ → Result Token LexFault
quoted_at start None = Err (OpenText start)
quoted_at start (Some len) = Ok (spanning kind.Quoted start (suc len))

abbrev pub symbol_at : ℕ → Option Symbol → Result Token LexFault
symbol_at start None = Err (BadCharacter start)
symbol_at start (Some s) = Ok (spanning (kind.Symbol s) start (length (spelling s)))

-- The token at the front of the bytes, the first of which stands at `start`.
abbrev pub token_at : ℕ → List ℕ → Result Token LexFault
token_at start [] = Err (BadCharacter start)
token_at start (b ∷ bs) =
    if is_letter b then Ok (spanning kind.Word start (prefix_len is_word_byte (b ∷ bs)))
    else (if is_ascii_digit b then number_at start (take_while is_ascii_digit (b ∷ bs))
    else (if b == quote then quoted_at start (quoted_len bs)
    else symbol_at start (symbol_of b (get_or bs 0 0))))

-- a token that starts here and ends within so many bytes
pub record Spans (at len : ℕ) (t : Token) : Type 0 where
  pub start : t.start ≡ at
  pub some : at < t.end
  pub within : t.end ≤ at + len

abbrev pub with_first : Token → Result (List Token) LexFault → Result (List Token) LexFault
with_first t (Ok ts) = Ok (t ∷ ts)
with_first t (Err fault) = Err fault

-- a token, and what the bytes behind its first one give where so many of them belong to it
abbrev pub followed : Result Token LexFault → (ℕ → Result (List Token) LexFault) → Result (List Token) LexFault
followed (Err fault) more = Err fault
followed (Ok t) more = with_first t (more (t.end - t.start - 1))

-- The tokens of bytes, the first of which stands at `place`, where so many of them belong to a token before.
abbrev pub tokens_from : ℕ → ℕ → List ℕ → Result (List Token) LexFault
tokens_from place taken [] = Ok []
tokens_from place (suc taken) (b ∷ bs) = tokens_from (suc place) taken bs
tokens_from place zero (b ∷ bs) =
    if is_blank b then tokens_from (suc place) 0 bs
    else followed (token_at place (b ∷ bs)) (λ taken. tokens_from (suc place) taken bs)

abbrev pub tokens_of : List ℕ → Result (List Token) LexFault
tokens_of text = tokens_from 0 0 text

-- What a call answered is what reading gives, unless memory ran out.
abbrev pub Gives : {A : Type 0} → Result A LexFault → Result A LexFault → Type 0
Gives (Err Memory) read = Unit {0}
Gives (Err (BadCharacter place)) read = read ≡ Err (BadCharacter place)
Gives (Err (OpenText place)) read = read ≡ Err (OpenText place)
Gives (Err (NumberTooLarge place)) read = read ≡ Err (NumberTooLarge place)
Gives (Ok x) read = read ≡ Ok x
