-- Terminals that tokens of texts are.
use Rattle.std.proofs.Common.{◌≡◌, ℕ, ◌-◌, ◌<◌, List, [], ◌∷◌, ◌++◌, length, Option, Some, None, true, inl, inr, refl, sym, ap, subst}
use Rattle.std.proofs.Common.{take_all, arith}
use Rattle.std.specs.List.{AllByRecursion}
use Rattle.std.proofs.lemmas.List.{drop_all}
use Rattle.gr_lex.specs.declared.token.Symbol.{Symbol}
use Rattle.gr_lex.specs.declared.token.Symbol.TheVariants as symbols
use Rattle.gr_lex.specs.declared.token.TokenKind.{TokenKind}
use Rattle.gr_lex.specs.declared.token.TokenKind.TheVariants as kind
use Rattle.gr_lex.specs.declared.token.Token.{Token}
use Rattle.gr_lex.specs.Bytes.{quote}
use Rattle.gr_lex.specs.Layout.{IsOfKind, first_fails, could_take, bytes_of, IsToken, IsLaidOutTo}
use Rattle.gr_oql.specs.declared.keyword.Keyword.{Keyword}
use Rattle.gr_oql.specs.declared.keyword.Keyword.TheVariants as word
use Rattle.gr_oql.specs.Words.{letters}
use Rattle.gr_oql.specs.Terminals.{Terminal, keyword, name, number, quoted, symbol, terminal_by, terminals_of, as_name}
use Rattle.gr_oql.specs.Grammar.{Is, IsAlias}
use Rattle.gr_oql.specs.FirstFault.{IsSpelled}
use Rattle.gr_oql.proofs.Sound.{Front}

-- lists of them
abbrev pub AreSpelled : List Terminal → Type 0
AreSpelled ts = AllByRecursion IsSpelled ts

pub both_spelled : (ts us : List Terminal) → AreSpelled ts → AreSpelled us → AreSpelled (ts ++ us)
both_spelled [] us first second = second
both_spelled (t ∷ ts) us first second = (first.0, both_spelled ts us first.1 second)

pub front_spelled : (ts us : List Terminal) → AreSpelled (ts ++ us) → AreSpelled ts
front_spelled [] us known = tt
front_spelled (t ∷ ts) us known = (known.0, front_spelled ts us known.1)

pub back_spelled : (ts us : List Terminal) → AreSpelled (ts ++ us) → AreSpelled us
back_spelled [] us known = known
back_spelled (t ∷ ts) us known = back_spelled ts us known.1

-- what is left behind what was read
pub left_spelled : (P : List Terminal → Type 0) (ts left : List Terminal) → Front P ts left → AreSpelled ts → AreSpelled left
left_spelled P ts left f known = back_spelled f.spelled left (subst AreSpelled f.split known)

-- the terminals of a text
pub laid_spelled : (text : List ℕ) (place stop : ℕ) (tokens : List Token) → IsLaidOutTo text place stop tokens
    → AreSpelled (terminals_of text tokens)
laid_spelled text place stop [] laid = tt
laid_spelled text place stop (t ∷ tokens) laid = ((text, t, laid.1, refl), laid_spelled text t.end stop tokens laid.2)

-- bytes that are the only token of a text
pub one_token : (k : TokenKind) (bytes : List ℕ) → 0 < length bytes → IsOfKind k bytes → IsSpelled (terminal_by k bytes)
one_token k bytes some is = (bytes, whole, token, ap (terminal_by k) all)
  where
    whole : Token
    whole = record { kind = k; start = 0; end = length bytes }

    all : bytes_of bytes whole ≡ bytes
    all = take_all (length bytes - 0) bytes (omega arith)

    token : IsToken bytes whole
    token = record {
      some = some;
      within = omega arith;
      of_kind = subst (IsOfKind k) (sym all) is;
      longest = subst (λ (l : List ℕ). first_fails (could_take k) l ≡ true) (sym (drop_all (length bytes) bytes (omega arith))) refl;
    }

pub symbol_spelled : (s : Symbol) → IsSpelled (symbol s)
symbol_spelled symbols.Star = one_token (kind.Symbol symbols.Star) _ (omega arith) refl
symbol_spelled symbols.LeftBracket = one_token (kind.Symbol symbols.LeftBracket) _ (omega arith) refl
symbol_spelled symbols.RightBracket = one_token (kind.Symbol symbols.RightBracket) _ (omega arith) refl
symbol_spelled symbols.Comma = one_token (kind.Symbol symbols.Comma) _ (omega arith) refl
symbol_spelled symbols.Dot = one_token (kind.Symbol symbols.Dot) _ (omega arith) refl
symbol_spelled symbols.Equal = one_token (kind.Symbol symbols.Equal) _ (omega arith) refl
symbol_spelled symbols.Angles = one_token (kind.Symbol symbols.Angles) _ (omega arith) refl
symbol_spelled symbols.BangEqual = one_token (kind.Symbol symbols.BangEqual) _ (omega arith) refl
symbol_spelled symbols.Less = one_token (kind.Symbol symbols.Less) _ (omega arith) refl
symbol_spelled symbols.LessEqual = one_token (kind.Symbol symbols.LessEqual) _ (omega arith) refl
symbol_spelled symbols.Greater = one_token (kind.Symbol symbols.Greater) _ (omega arith) refl
symbol_spelled symbols.GreaterEqual = one_token (kind.Symbol symbols.GreaterEqual) _ (omega arith) refl
symbol_spelled symbols.Slash = one_token (kind.Symbol symbols.Slash) _ (omega arith) refl
symbol_spelled symbols.Dollar = one_token (kind.Symbol symbols.Dollar) _ (omega arith) refl
symbol_spelled symbols.Minus = one_token (kind.Symbol symbols.Minus) _ (omega arith) refl

pub keyword_spelled : (k : Keyword) → IsSpelled (keyword k (letters k))
keyword_spelled word.Select = one_token kind.Word (letters word.Select) (omega arith) refl
keyword_spelled word.Distinct = one_token kind.Word (letters word.Distinct) (omega arith) refl
keyword_spelled word.From = one_token kind.Word (letters word.From) (omega arith) refl
keyword_spelled word.As = one_token kind.Word (letters word.As) (omega arith) refl
keyword_spelled word.Where = one_token kind.Word (letters word.Where) (omega arith) refl
keyword_spelled word.And = one_token kind.Word (letters word.And) (omega arith) refl
keyword_spelled word.Or = one_token kind.Word (letters word.Or) (omega arith) refl
keyword_spelled word.Not = one_token kind.Word (letters word.Not) (omega arith) refl
keyword_spelled word.In = one_token kind.Word (letters word.In) (omega arith) refl
keyword_spelled word.Set = one_token kind.Word (letters word.Set) (omega arith) refl
keyword_spelled word.Like = one_token kind.Word (letters word.Like) (omega arith) refl
keyword_spelled word.True = one_token kind.Word (letters word.True) (omega arith) refl
keyword_spelled word.False = one_token kind.Word (letters word.False) (omega arith) refl
keyword_spelled word.Null = one_token kind.Word (letters word.Null) (omega arith) refl
keyword_spelled word.Undefined = one_token kind.Word (letters word.Undefined) (omega arith) refl
keyword_spelled word.IsDefined = one_token kind.Word (letters word.IsDefined) (omega arith) refl
keyword_spelled word.IsUndefined = one_token kind.Word (letters word.IsUndefined) (omega arith) refl
keyword_spelled word.Order = one_token kind.Word (letters word.Order) (omega arith) refl
keyword_spelled word.Group = one_token kind.Word (letters word.Group) (omega arith) refl
keyword_spelled word.Having = one_token kind.Word (letters word.Having) (omega arith) refl
keyword_spelled word.Limit = one_token kind.Word (letters word.Limit) (omega arith) refl
keyword_spelled word.Import = one_token kind.Word (letters word.Import) (omega arith) refl

-- x
pub name_spelled : IsSpelled (name (0x78 ∷ []))
name_spelled = one_token kind.Word (0x78 ∷ []) (omega arith) refl

-- 0
pub number_spelled : IsSpelled (number 0)
number_spelled = one_token (kind.Number 0) (0x30 ∷ []) (omega arith) (refl, refl, omega arith)

-- two quotes
pub quoted_spelled : IsSpelled (quoted [])
quoted_spelled = one_token kind.Quoted (quote ∷ quote ∷ []) (omega arith) ([], refl)

-- The alias of a query, where there is one, can be a name in a text.
abbrev pub IsSpelledAlias : Option (List ℕ) → Type 0
IsSpelledAlias None = Unit {0}
IsSpelledAlias (Some a) = IsSpelled (name a)

name_is : (t : Terminal) (a : List ℕ) → as_name t ≡ Some a → t ≡ name a
name_is (name v) a is = ap name (cc)
name_is (keyword u v) a is = absurd (cc)
name_is (number n) a is = absurd (cc)
name_is (quoted q) a is = absurd (cc)
name_is (symbol u) a is = absurd (cc)

one_name_spelled : (a : List ℕ) (ts : List Terminal) → Is as_name a ts → AreSpelled ts → IsSpelled (name a)
one_name_spelled a ts is known = subst IsSpelled (name_is is.0 a is.1) (subst AreSpelled is.2 known).0

alias_in : (alias : Option (List ℕ)) (ts : List Terminal) → IsAlias alias ts → AreSpelled ts → IsSpelledAlias alias
alias_in None ts is known = tt
alias_in (Some a) ts (inl is) known = one_name_spelled a ts is known
alias_in (Some a) ts (inr is) known = one_name_spelled a is.1 is.4 (back_spelled is.0 is.1 (subst AreSpelled is.2 known))

-- where it is read among terminals of tokens, it can
pub alias_spelled : (alias : Option (List ℕ)) (ts left : List Terminal) → Front (IsAlias alias) ts left → AreSpelled ts
    → IsSpelledAlias alias
alias_spelled alias ts left f known = alias_in alias f.spelled f.holds (front_spelled f.spelled left (subst AreSpelled f.split known))
