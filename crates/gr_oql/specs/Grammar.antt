-- The grammar of queries: which terminals spell what. Nothing here says how they are read.
use Rattle.std.specs.Prelude.{◌≡◌, ◌⊎◌, ℕ, zero, suc, ◌<◌, ◌≤◌, pos, neg_ℤ, List, [], ◌∷◌, ◌++◌, length, Bool, true, false, IsTrue}
use Rattle.std.specs.Prelude.{IsFalse, Option, Some, None, ◌==◌, bytes_eq}
use Rattle.std.specs.List.{list_any}
use Rattle.gr_value.specs.declared.scalar.Scalar.{Scalar}
use Rattle.gr_value.specs.declared.scalar.Scalar.TheVariants as scalar
use Rattle.gr_lex.specs.declared.token.Symbol.TheVariants as symbols
use Rattle.gr_oql.specs.declared.keyword.Keyword.TheVariants as word
use Rattle.gr_oql.specs.declared.condition.Relation.{Relation}
use Rattle.gr_oql.specs.declared.condition.Relation.TheVariants as relation
use Rattle.gr_oql.specs.declared.condition.Operand.{Operand}
use Rattle.gr_oql.specs.declared.condition.Operand.TheVariants as operand
use Rattle.gr_oql.specs.declared.condition.Test.{Test}
use Rattle.gr_oql.specs.declared.condition.Test.TheVariants as tests
use Rattle.gr_lex.specs.declared.token.Token.{Token}
use Rattle.gr_lex.specs.Bytes.{greatest_number}
use Rattle.gr_lex.specs.Layout.{IsLaidOut}
use Rattle.gr_oql.specs.Question.{Asked, Question}
use Rattle.gr_oql.specs.Tree.{Tree, any, all, negation, test}
use Rattle.gr_oql.specs.View.{in_order}
use Rattle.gr_oql.specs.Terminals.{Terminal, is_symbol, is_keyword, as_name, as_word, as_number, as_quoted, terminals_of}

-- one terminal that passes a test, as `(`
abbrev pub One : (Terminal → Bool) → List Terminal → Type 0
One passes ts = (t : Terminal) × IsTrue (passes t) × (ts ≡ t ∷ [])

-- one terminal that has this part, as a name
abbrev pub Is : {A : Type 0} → (Terminal → Option A) → A → List Terminal → Type 0
Is part x ts = (t : Terminal) × (part t ≡ Some x) × (ts ≡ t ∷ [])

-- two parts, one behind the other
infixr 20 ◌then◌
abbrev pub ◌then◌ : (List Terminal → Type 0) → (List Terminal → Type 0) → List Terminal → Type 0
(P then Q) ts = (front : List Terminal) × (back : List Terminal) × (ts ≡ front ++ back) × P front × Q back

-- items with separators between them
abbrev pub Row : {A : Type 0} → (Terminal → Bool) → (A → List Terminal → Type 0) → List A → List Terminal → Type 0
Row separator Item [] ts = ⊥
Row separator Item (x ∷ []) ts = Item x ts
Row separator Item (x ∷ y ∷ ys) ts = (Item x then One separator then Row separator Item (y ∷ ys)) ts

-- whether a name is the query's alias
abbrev pub is_alias : Option (List ℕ) → List ℕ → Bool
is_alias None w = false
is_alias (Some alias) w = bytes_eq alias w

-- attr = name | alias "." word
abbrev pub Field : Option (List ℕ) → List ℕ → List Terminal → Type 0
Field alias f ts =
    (IsFalse (is_alias alias f) × Is as_name f ts)
    ⊎ ((a : List ℕ) × IsTrue (is_alias alias a) × (Is as_name a then One (is_symbol symbols.Dot) then Is as_word f) ts)

-- literal = [ "-" ] number | quoted | TRUE | FALSE | NULL
abbrev pub Literal : Scalar → List Terminal → Type 0
Literal scalar.Null ts = One (is_keyword word.Null) ts
Literal (scalar.Bool true) ts = One (is_keyword word.True) ts
Literal (scalar.Bool false) ts = One (is_keyword word.False) ts
Literal (scalar.Text text) ts = Is as_quoted text ts
Literal (scalar.Int z) ts =
    ((n : ℕ) × (n < greatest_number) × (z ≡ pos n) × Is as_number n ts)
    ⊎ ((n : ℕ) × (n ≤ greatest_number) × (z ≡ neg_ℤ (pos n)) × (One (is_symbol symbols.Minus) then Is as_number n) ts)

abbrev pub IsOperand : Option (List ℕ) → Operand → List Terminal → Type 0
IsOperand alias (operand.Field f) ts = Field alias f ts
IsOperand alias (operand.Literal l) ts = Literal l ts

abbrev pub IsRelation : Relation → List Terminal → Type 0
IsRelation relation.Equal ts = One (is_symbol symbols.Equal) ts
IsRelation relation.Different ts = One (is_symbol symbols.Angles) ts ⊎ One (is_symbol symbols.BangEqual) ts
IsRelation relation.Less ts = One (is_symbol symbols.Less) ts
IsRelation relation.LessOrEqual ts = One (is_symbol symbols.LessEqual) ts
IsRelation relation.Greater ts = One (is_symbol symbols.Greater) ts
IsRelation relation.GreaterOrEqual ts = One (is_symbol symbols.GreaterEqual) ts

abbrev pub Bracketed : (List Terminal → Type 0) → List Terminal → Type 0
Bracketed P = One (is_symbol symbols.LeftBracket) then P then One (is_symbol symbols.RightBracket)

abbrev pub has_backslash : List ℕ → Bool
has_backslash text = list_any (λ byte. byte == 0x5C) text

-- A test. A pattern of a continuous query has no backslash.
abbrev pub IsTest : Option (List ℕ) → Test → List Terminal → Type 0
IsTest alias (tests.Defined f) ts = (One (is_keyword word.IsDefined) then Bracketed (Field alias f)) ts
IsTest alias (tests.Undefined f) ts = (One (is_keyword word.IsUndefined) then Bracketed (Field alias f)) ts
IsTest alias (tests.Like f pattern) ts = IsFalse (has_backslash pattern)
    × (Field alias f then One (is_keyword word.Like) then Is as_quoted pattern) ts
IsTest alias (tests.Among o literals) ts =
    (IsOperand alias o then One (is_keyword word.In) then One (is_keyword word.Set)
    then Bracketed (Row (is_symbol symbols.Comma) Literal literals)) ts
IsTest alias (tests.Compare left r right) ts = (IsOperand alias left then IsRelation r then IsOperand alias right) ts

-- and = not { AND not }, or = and { OR and }
abbrev pub IsAll : (Tree → List Terminal → Type 0) → Tree → List Terminal → Type 0
IsAll Part c ts = (parts : List Tree) × (c ≡ all (in_order parts)) × Row (is_keyword word.And) Part parts ts

abbrev pub IsAny : (Tree → List Terminal → Type 0) → Tree → List Terminal → Type 0
IsAny Part c ts = (parts : List Tree) × (c ≡ any (in_order parts)) × Row (is_keyword word.Or) (IsAll Part) parts ts

-- not = NOT not | "(" or ")" | a test, where so many NOTs and brackets may be around a condition within
abbrev pub IsPart : Option (List ℕ) → ℕ → Tree → List Terminal → Type 0
IsPart alias zero c ts = (t : Test) × (c ≡ test t) × IsTest alias t ts
IsPart alias (suc depth) c ts =
    ((t : Test) × (c ≡ test t) × IsTest alias t ts)
    ⊎ ((e : Tree) × (c ≡ negation e) × (One (is_keyword word.Not) then IsPart alias depth e) ts)
    ⊎ Bracketed (IsAny (IsPart alias depth) c) ts

-- how many NOTs and brackets at most are around a condition
abbrev pub most_depth : ℕ
most_depth = 64

abbrev pub IsCondition : ℕ → Option (List ℕ) → Tree → List Terminal → Type 0
IsCondition depth alias c ts = IsAny (IsPart alias depth) c ts

-- how many bytes the name of a region has at most
abbrev pub most_region_bytes : ℕ
most_region_bytes = 254

-- the region, as a name behind a slash
abbrev pub IsRegion : List ℕ → List Terminal → Type 0
IsRegion region ts = (w : List ℕ) × (length w ≤ most_region_bytes) × (region ≡ 0x2F ∷ w) × Is as_name w ts

abbrev pub IsAlias : Option (List ℕ) → List Terminal → Type 0
IsAlias None ts = ts ≡ []
IsAlias (Some a) ts = Is as_name a ts ⊎ (One (is_keyword word.As) then Is as_name a) ts

abbrev pub IsWhere : ℕ → Option (List ℕ) → Option Tree → List Terminal → Type 0
IsWhere depth alias None ts = ts ≡ []
IsWhere depth alias (Some c) ts = (One (is_keyword word.Where) then IsCondition depth alias c) ts

-- query = SELECT "*" FROM "/" name [ [ AS ] name ] [ WHERE or ]
abbrev pub IsQueryWithin : ℕ → Asked → List Terminal → Type 0
IsQueryWithin depth q ts =
    (One (is_keyword word.Select) then One (is_symbol symbols.Star) then One (is_keyword word.From) then One (is_symbol symbols.Slash)
    then IsRegion q.region then IsAlias q.alias then IsWhere depth q.alias q.condition) ts

abbrev pub IsQuery : Asked → List Terminal → Type 0
IsQuery q ts = IsQueryWithin most_depth q ts

-- The tokens of which the text is laid out spell the question.
abbrev pub Spells : List ℕ → Question → Type 0
Spells text q = (tokens : List Token) × IsLaidOut text 0 tokens × (q.text ≡ text) × IsQuery q.asked (terminals_of text tokens)
