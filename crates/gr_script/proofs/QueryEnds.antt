-- A query's text isn't empty, and doesn't end with a carriage return.
use Rattle.std.proofs.Common.{◌≡◌, ℕ, ◌-◌, ◌<◌, List, [], ◌∷◌, length, take, drop, true, false, ◌||◌}
use Rattle.std.proofs.Common.{Ok, refl, sym, ap, ◌∙◌, subst, arith, inl, inr}
use Rattle.std.specs.Char.{is_ascii_digit}
use Rattle.std.specs.List.{list_all}
use Rattle.std.proofs.lemmas.Bool.{and_parts, and_from, cases_lt}
use Rattle.std.proofs.lemmas.List.{take_all, take-append-drop, length-drop}
use Rattle.gr_lex.specs.Bytes.{is_blank, is_letter, is_word_byte, quote, spelling}
use Rattle.gr_lex.specs.Layout.{is_word, doubled, IsOfKind, IsLaidOutTo, bytes_of}
use Rattle.gr_lex.specs.declared.token.Symbol.{Symbol}
use Rattle.gr_lex.specs.declared.token.Symbol.TheVariants.{Star, LeftBracket, RightBracket, Comma, Dot, Equal, Angles, BangEqual, Less}
use Rattle.gr_lex.specs.declared.token.Symbol.TheVariants.{LessEqual, Greater, GreaterEqual, Slash, Dollar, Minus}
use Rattle.gr_lex.specs.declared.token.Token.{Token}
use Rattle.gr_lex.specs.declared.token.TokenKind.{TokenKind}
use Rattle.gr_lex.specs.declared.token.TokenKind.TheVariants as kind
use Rattle.gr_oql.specs.Grammar.{Spells}
use Rattle.gr_oql.specs.Question.{Question}
use Rattle.gr_script.specs.Cuts.{ends_with}
use Rattle.gr_oql.specs.Questions.{question_of}
use Rattle.gr_oql.proofs.Asking.{only}
use Rattle.gr_script.proofs.PrintedTexts.{no_end, ends_append, ends_back}

letter_is_word_byte : (byte : ℕ) → is_letter byte ≡ true → is_word_byte byte ≡ true
letter_is_word_byte byte is = ap (λ b. b || is_ascii_digit byte) is

word_bytes : (bytes : List ℕ) → is_word bytes ≡ true → list_all is_word_byte bytes ≡ true
word_bytes [] is = absurd cc
word_bytes (first ∷ rest) is =
    let parts = and_parts (is_letter first) (list_all is_word_byte rest) is in
    and_from _ _ (letter_is_word_byte first parts.0) parts.1

symbol_ends : (symbol : Symbol) → ends_with 0x0D (spelling symbol) ≡ false
symbol_ends Star = refl
symbol_ends LeftBracket = refl
symbol_ends RightBracket = refl
symbol_ends Comma = refl
symbol_ends Dot = refl
symbol_ends Equal = refl
symbol_ends Angles = refl
symbol_ends BangEqual = refl
symbol_ends Less = refl
symbol_ends LessEqual = refl
symbol_ends Greater = refl
symbol_ends GreaterEqual = refl
symbol_ends Slash = refl
symbol_ends Dollar = refl
symbol_ends Minus = refl

token_ends : (k : TokenKind) (bytes : List ℕ) → IsOfKind k bytes → ends_with 0x0D bytes ≡ false
token_ends kind.Word bytes is = no_end is_word_byte 0x0D bytes refl (word_bytes bytes is)
token_ends (kind.Number number) bytes is = no_end is_ascii_digit 0x0D bytes refl is.0
token_ends kind.Quoted bytes is = ap (ends_with 0x0D) is.1 ∙ ends_append 0x0D (quote ∷ doubled is.0) quote []
token_ends (kind.Symbol symbol) bytes is = ap (ends_with 0x0D) is ∙ symbol_ends symbol

-- how a text ends whose last bytes are these
ends_as : (text : List ℕ) (place : ℕ) → place < length text → ends_with 0x0D (drop place text) ≡ false → ends_with 0x0D text ≡ false
ends_as text place within ends =
    ap (ends_with 0x0D) (sym (take-append-drop place text))
    ∙ ends_back 0x0D (take place text) (drop place text) (omega (arith, length-drop place text, within)) ∙ ends

all_taken : (text : List ℕ) (place : ℕ) → take (length text - place) (drop place text) ≡ drop place text
all_taken text place = take_all (length text - place) (drop place text) (omega (arith, length-drop place text))

laid_ends : (text : List ℕ) (place : ℕ) (tokens : List Token) → IsLaidOutTo text place (length text) tokens → place < length text
    → ends_with 0x0D text ≡ false
laid_ends text place [] blanks within =
    ends_as text place within (no_end is_blank 0x0D (drop place text) refl
    (subst (λ bytes. list_all is_blank bytes ≡ true) (all_taken text place) blanks.1))
laid_ends text place (token ∷ tokens) laid within =
    elim (cases_lt token.end (length text)) [
      | inl before ↦ laid_ends text token.end tokens laid.2 before
      | inr there ↦
          let last : token.end ≡ length text = omega (arith, there, laid.1.within) in
          let bytes : bytes_of text token ≡ drop token.start text =
          ap (λ n. take (n - token.start) (drop token.start text)) last ∙ all_taken text token.start in
          ends_as text token.start (omega (arith, laid.1.some, laid.1.within))
          (ap (ends_with 0x0D) (sym bytes) ∙ token_ends token.kind (bytes_of text token) laid.1.of_kind)
    ]

pub query_ends : (text : List ℕ) (query : Question) → Spells text query → 0 < length text → ends_with 0x0D text ≡ false
query_ends text query is some = laid_ends text 0 is.0 is.1 some

nothing_asked : (query : Question) → question_of [] ≡ Ok query → ⊥
nothing_asked query e = cc

pub query_some : (text : List ℕ) (query : Question) → Spells text query → 0 < length text
query_some [] query is = absurd (nothing_asked query (only [] query is))
query_some (first ∷ rest) query is = omega arith
