-- A query's tokens as its grammar sees them.
use Rattle.std.specs.Prelude.{◌≡◌, ℕ, ◌-◌, ◌<◌, List, [], ◌∷◌, ◌++◌, take, drop, length, map, Bool, false, ◌==◌, ◌||◌, if◌then◌else◌}
use Rattle.std.specs.Prelude.{bytes_eq, Option, Some, None}
use Rattle.gr_lex.specs.declared.token.Symbol.{Symbol}
use Rattle.gr_lex.specs.declared.token.TokenKind.{TokenKind}
use Rattle.gr_lex.specs.declared.token.TokenKind.TheVariants as kind
use Rattle.gr_lex.specs.declared.token.Token.{Token}
use Rattle.gr_lex.specs.Bytes.{quote, spelling}
use Rattle.gr_lex.specs.Layout.{bytes_of}
use Rattle.gr_oql.specs.declared.keyword.Keyword.{Keyword}
use Rattle.gr_oql.specs.declared.keyword.Keyword.TheVariants as word
use Rattle.gr_oql.specs.Words.{keyword_of, keyword_eq}

pub data Terminal : Type 0 where
  -- with the word as it is written
  keyword : Keyword → List ℕ → Terminal
  name : List ℕ → Terminal
  number : ℕ → Terminal
  -- with what the text says
  quoted : List ℕ → Terminal
  symbol : Symbol → Terminal

abbrev mutual
  -- a text whose quotes are doubled, with one for two
  pub undoubled : List ℕ → List ℕ
  undoubled [] = []
  undoubled (b ∷ bs) = if b == quote then quote ∷ behind_quote bs else b ∷ undoubled bs

  pub behind_quote : List ℕ → List ℕ
  behind_quote [] = []
  behind_quote (b ∷ bs) = if b == quote then undoubled bs else b ∷ undoubled bs

-- The text is one part without quotes, two quotes, and another part.
pub record SplitsAtQuotes (text before behind : List ℕ) : Type 0 where
  pub said : undoubled text ≡ before ++ quote ∷ undoubled behind
  pub shorter : length behind < length text

-- what stands between the outer quotes
abbrev pub inside : List ℕ → List ℕ
inside bytes = take (length bytes - 2) (drop 1 bytes)

abbrev pub word_terminal : List ℕ → Option Keyword → Terminal
word_terminal word None = name word
word_terminal word (Some k) = keyword k word

abbrev pub terminal_by : TokenKind → List ℕ → Terminal
terminal_by kind.Word bytes = word_terminal bytes (keyword_of bytes)
terminal_by (kind.Number n) bytes = number n
terminal_by kind.Quoted bytes = quoted (undoubled (inside bytes))
terminal_by (kind.Symbol s) bytes = symbol s

abbrev pub terminal_of : List ℕ → Token → Terminal
terminal_of text t = terminal_by t.kind (bytes_of text t)

abbrev pub terminals_of : List ℕ → List Token → List Terminal
terminals_of text tokens = map (terminal_of text) tokens

-- tests of a terminal
abbrev pub symbol_eq : Symbol → Symbol → Bool
symbol_eq one other = bytes_eq (spelling one) (spelling other)

abbrev pub is_symbol : Symbol → Terminal → Bool
is_symbol s (symbol other) = symbol_eq other s
is_symbol s (keyword k w) = false
is_symbol s (name w) = false
is_symbol s (number n) = false
is_symbol s (quoted text) = false

abbrev pub is_keyword : Keyword → Terminal → Bool
is_keyword k (keyword other w) = keyword_eq other k
is_keyword k (symbol s) = false
is_keyword k (name w) = false
is_keyword k (number n) = false
is_keyword k (quoted text) = false

-- a word with which queries of a wider language go on
abbrev pub is_tail : Terminal → Bool
is_tail t = is_keyword word.Order t || is_keyword word.Group t || is_keyword word.Having t || is_keyword word.Limit t

-- what stands at the front
abbrev pub begins : (Terminal → Bool) → List Terminal → Bool
begins test [] = false
begins test (t ∷ ts) = test t

abbrev pub front : {A : Type 0} → (Terminal → Option A) → List Terminal → Option A
front part [] = None
front part (t ∷ ts) = part t

abbrev pub rest : List Terminal → List Terminal
rest [] = []
rest (t ∷ ts) = ts

abbrev pub as_name : Terminal → Option (List ℕ)
as_name (name w) = Some w
as_name (keyword k w) = None
as_name (number n) = None
as_name (quoted text) = None
as_name (symbol s) = None

-- a word of either sort
abbrev pub as_word : Terminal → Option (List ℕ)
as_word (name w) = Some w
as_word (keyword k w) = Some w
as_word (number n) = None
as_word (quoted text) = None
as_word (symbol s) = None

abbrev pub as_number : Terminal → Option ℕ
as_number (number n) = Some n
as_number (name w) = None
as_number (keyword k w) = None
as_number (quoted text) = None
as_number (symbol s) = None

abbrev pub as_quoted : Terminal → Option (List ℕ)
as_quoted (quoted text) = Some text
as_quoted (name w) = None
as_quoted (keyword k w) = None
as_quoted (number n) = None
as_quoted (symbol s) = None
