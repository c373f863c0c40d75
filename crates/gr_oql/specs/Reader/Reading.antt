-- What a query's tokens say, or where they cease to begin a query: a definition for each rule of the grammar.
-- Each reads at the front, and gives what stands there and the tokens behind it; or what is wrong, and the
-- tokens from the first wrong one on.
use Rattle.std.specs.Prelude.{ℕ, zero, suc, pos, neg_ℤ, List, [], ◌∷◌, length, Bool, true, false, ◌||◌, if◌then◌else◌, nat_lt, nat_le}
use Rattle.std.specs.Prelude.{Option, Some, None, Result, Ok, Err}
use Rattle.gr_value.specs.declared.scalar.Scalar.{Scalar}
use Rattle.gr_value.specs.declared.scalar.Scalar.TheVariants as scalar
use Rattle.gr_lex.specs.declared.token.Symbol.TheVariants as symbols
use Rattle.gr_oql.specs.declared.keyword.Keyword.{Keyword}
use Rattle.gr_oql.specs.declared.keyword.Keyword.TheVariants as word
use Rattle.gr_oql.specs.declared.condition.Relation.{Relation}
use Rattle.gr_oql.specs.declared.condition.Relation.TheVariants as relation
use Rattle.gr_oql.specs.declared.condition.Operand.{Operand}
use Rattle.gr_oql.specs.declared.condition.Operand.TheVariants as operand
use Rattle.gr_oql.specs.declared.condition.Test.{Test}
use Rattle.gr_oql.specs.declared.condition.Test.TheVariants as tests
use Rattle.gr_oql.specs.declared.fault.Part.TheVariants as part
use Rattle.gr_oql.specs.declared.halt.Wrong.{Wrong}
use Rattle.gr_oql.specs.declared.halt.Wrong.TheVariants.{Expected, NotACq, TooDeep}
use Rattle.gr_lex.specs.declared.token.Symbol.{Symbol}
use Rattle.gr_lex.specs.Bytes.{greatest_number}
use Rattle.gr_oql.specs.Grammar.{is_alias, has_backslash, most_depth, most_region_bytes}
use Rattle.gr_oql.specs.Question.{Asked}
use Rattle.gr_oql.specs.Tree.{Tree, any, all, negation, test}
use Rattle.gr_oql.specs.View.{in_order}
use Rattle.gr_oql.specs.Terminals.{Terminal, is_symbol, is_keyword, begins, front, rest, as_name, as_word, as_number, as_quoted, is_tail}

abbrev pub Reading : Type 0 → Type 0
Reading A = Result (A × List Terminal) (Wrong × List Terminal)

infixl 10 ◌>>=◌
abbrev pub ◌>>=◌ : {A B : Type 0} → Reading A → (A × List Terminal → Reading B) → Reading B
(Ok x) >>= f = f x
(Err e) >>= f = Err e

-- a value that was read, made into another
abbrev pub read_as : {A B : Type 0} → (A → B) → Reading A → Reading B
read_as make read = read >>= λ x. Ok (make x.0, x.1)

abbrev pub stop : {A : Type 0} → Wrong → List Terminal → Reading A
stop wrong ts = Err (wrong, ts)

-- what is due
abbrev pub symbol_at : Symbol → List Terminal → Reading (Unit {0})
symbol_at s ts = if begins (is_symbol s) ts then Ok (tt, rest ts) else stop Expected ts

abbrev pub keyword_at : Keyword → List Terminal → Reading (Unit {0})
keyword_at k ts = if begins (is_keyword k) ts then Ok (tt, rest ts) else stop Expected ts

-- the word that stands there, which is due
abbrev pub word_by : Option (List ℕ) → List Terminal → Reading (List ℕ)
word_by (Some w) ts = Ok (w, rest ts)
word_by None ts = stop Expected ts

abbrev pub name_at : List Terminal → Reading (List ℕ)
name_at ts = word_by (front as_name ts) ts

-- Fields, literals and operands.
abbrev pub member_at : List Terminal → Reading (List ℕ)
member_at ts = symbol_at symbols.Dot ts >>= λ dot. word_by (front as_word dot.1) dot.1

abbrev pub field_of_name : Option (List ℕ) → List ℕ → List Terminal → Reading (List ℕ)
field_of_name alias w ts = if is_alias alias w then member_at ts else Ok (w, ts)

abbrev pub field_by : Option (List ℕ) → Option (List ℕ) → List Terminal → Reading (List ℕ)
field_by alias (Some w) ts = field_of_name alias w (rest ts)
field_by alias None ts = stop Expected ts

abbrev pub field_at : Option (List ℕ) → List Terminal → Reading (List ℕ)
field_at alias ts = field_by alias (front as_name ts) ts

abbrev pub negative_by : Option ℕ → List Terminal → Reading Scalar
negative_by (Some n) ts = if nat_le n greatest_number then Ok (scalar.Int (neg_ℤ (pos n)), rest ts) else stop Expected ts
negative_by None ts = stop Expected ts

abbrev pub negative_at : List Terminal → Reading Scalar
negative_at ts = negative_by (front as_number ts) ts

-- where an operand or a literal is due
abbrev pub missing : List Terminal → Wrong
missing ts = if begins (is_symbol symbols.Dollar) ts then NotACq part.Bind else Expected

abbrev pub plain_by : Option ℕ → Option (List ℕ) → List Terminal → Reading Scalar
plain_by (Some n) text ts = if nat_lt n greatest_number then Ok (scalar.Int (pos n), rest ts) else stop Expected ts
plain_by None (Some text) ts = Ok (scalar.Text text, rest ts)
plain_by None None ts = stop (missing ts) ts

abbrev pub literal_at : List Terminal → Reading Scalar
literal_at ts =
    if begins (is_symbol symbols.Minus) ts then negative_at (rest ts)
    else (if begins (is_keyword word.True) ts then Ok (scalar.Bool true, rest ts)
    else (if begins (is_keyword word.False) ts then Ok (scalar.Bool false, rest ts)
    else (if begins (is_keyword word.Null) ts then Ok (scalar.Null, rest ts)
    else plain_by (front as_number ts) (front as_quoted ts) ts)))

abbrev pub operand_by : Option (List ℕ) → Option (List ℕ) → List Terminal → Reading Operand
operand_by alias (Some w) ts = read_as operand.Field (field_of_name alias w (rest ts))
operand_by alias None ts = read_as operand.Literal (literal_at ts)

abbrev pub operand_at : Option (List ℕ) → List Terminal → Reading Operand
operand_at alias ts = operand_by alias (front as_name ts) ts

-- Items one after another, as long as a separator stands between them. No list has more of them than tokens.
abbrev pub more_at : {A : Type 0} → (Terminal → Bool) → (List Terminal → Reading A) → ℕ → List Terminal → Reading (List A)
more_at separator item zero ts = Ok ([], ts)
more_at separator item (suc turns) ts =
    if begins separator ts then (item (rest ts) >>= λ x. read_as (λ xs. x.0 ∷ xs) (more_at separator item turns x.1))
    else Ok ([], ts)

abbrev pub separated_at : {A : Type 0} → (Terminal → Bool) → (List Terminal → Reading A) → List Terminal → Reading (List A)
separated_at separator item ts = item ts >>= λ x. read_as (λ xs. x.0 ∷ xs) (more_at separator item (length x.1) x.1)

-- Tests.
abbrev pub relation_at : List Terminal → Reading Relation
relation_at ts =
    if begins (is_symbol symbols.Equal) ts then Ok (relation.Equal, rest ts)
    else (if begins (is_symbol symbols.Angles) ts then Ok (relation.Different, rest ts)
    else (if begins (is_symbol symbols.BangEqual) ts then Ok (relation.Different, rest ts)
    else (if begins (is_symbol symbols.Less) ts then Ok (relation.Less, rest ts)
    else (if begins (is_symbol symbols.LessEqual) ts then Ok (relation.LessOrEqual, rest ts)
    else (if begins (is_symbol symbols.Greater) ts then Ok (relation.Greater, rest ts)
    else (if begins (is_symbol symbols.GreaterEqual) ts then Ok (relation.GreaterOrEqual, rest ts)
    else stop Expected ts))))))

abbrev pub pattern_by : Option (List ℕ) → List Terminal → Reading (List ℕ)
pattern_by (Some text) ts = if has_backslash text then stop (NotACq part.Escape) ts else Ok (text, rest ts)
pattern_by None ts = stop Expected ts

abbrev pub like_at : List ℕ → List Terminal → Reading Test
like_at field ts = read_as (λ pattern. tests.Like field pattern) (pattern_by (front as_quoted ts) ts)

abbrev pub among_at : Operand → List Terminal → Reading Test
among_at o ts =
    keyword_at word.Set ts >>= λ set.
    symbol_at symbols.LeftBracket set.1 >>= λ left.
    separated_at (is_symbol symbols.Comma) literal_at left.1 >>= λ literals.
    read_as (λ _. tests.Among o literals.0) (symbol_at symbols.RightBracket literals.1)

abbrev pub compare_at : Option (List ℕ) → Operand → List Terminal → Reading Test
compare_at alias o ts =
    relation_at ts >>= λ r.
    read_as (λ right. tests.Compare o r.0 right) (operand_at alias r.1)

-- what stands behind an operand
abbrev pub behind_operand : Option (List ℕ) → Operand → List Terminal → Reading Test
behind_operand alias o ts =
    if begins (is_keyword word.In) ts then among_at o (rest ts) else compare_at alias o ts

abbrev pub behind_first : Option (List ℕ) → Operand → List Terminal → Reading Test
behind_first alias (operand.Field f) ts =
    if begins (is_keyword word.Like) ts then like_at f (rest ts) else behind_operand alias (operand.Field f) ts
behind_first alias (operand.Literal l) ts = behind_operand alias (operand.Literal l) ts

-- a field in brackets
abbrev pub bracketed_at : Option (List ℕ) → List Terminal → Reading (List ℕ)
bracketed_at alias ts =
    symbol_at symbols.LeftBracket ts >>= λ left.
    field_at alias left.1 >>= λ field.
    read_as (λ _. field.0) (symbol_at symbols.RightBracket field.1)

abbrev pub test_at : Option (List ℕ) → List Terminal → Reading Test
test_at alias ts =
    if begins (is_keyword word.IsDefined) ts then read_as tests.Defined (bracketed_at alias (rest ts))
    else (if begins (is_keyword word.IsUndefined) ts then read_as tests.Undefined (bracketed_at alias (rest ts))
    else (operand_at alias ts >>= λ left. behind_first alias left.0 left.1))

-- Conditions. `within` reads one part of an AND.
abbrev pub all_at : (List Terminal → Reading Tree) → List Terminal → Reading Tree
all_at within ts = read_as (λ parts. all (in_order parts)) (separated_at (is_keyword word.And) within ts)

abbrev pub any_at : (List Terminal → Reading Tree) → List Terminal → Reading Tree
any_at within ts = read_as (λ parts. any (in_order parts)) (separated_at (is_keyword word.Or) (all_at within) ts)

abbrev pub bracket_at : (List Terminal → Reading Tree) → List Terminal → Reading Tree
bracket_at within ts =
    any_at within ts >>= λ condition.
    read_as (λ _. condition.0) (symbol_at symbols.RightBracket condition.1)

-- one part of an AND, inside which so many brackets and NOTs may still be opened
abbrev pub part_at : Option (List ℕ) → ℕ → List Terminal → Reading Tree
part_at alias zero ts =
    if begins (is_keyword word.Not) ts || begins (is_symbol symbols.LeftBracket) ts then stop TooDeep ts
    else read_as test (test_at alias ts)
part_at alias (suc depth) ts =
    if begins (is_keyword word.Not) ts then read_as negation (part_at alias depth (rest ts))
    else (if begins (is_symbol symbols.LeftBracket) ts then bracket_at (part_at alias depth) (rest ts)
    else read_as test (test_at alias ts))

unfoldable pub condition_at : ℕ → Option (List ℕ) → List Terminal → Reading Tree
condition_at depth alias ts = any_at (part_at alias depth) ts

-- The query.
abbrev pub star_at : List Terminal → Reading (Unit {0})
star_at [] = stop Expected []
star_at (t ∷ ts) =
    if is_symbol symbols.Star t then Ok (tt, ts)
    else (if is_keyword word.Distinct t then stop (NotACq part.Distinct) (t ∷ ts)
    else stop (NotACq part.Projection) (t ∷ ts))

abbrev pub region_by : Option (List ℕ) → List Terminal → Reading (List ℕ)
region_by (Some w) ts = if nat_le (length w) most_region_bytes then Ok (0x2F ∷ w, rest ts) else stop Expected ts
region_by None ts = stop Expected ts

abbrev pub region_at : List Terminal → Reading (List ℕ)
region_at ts = region_by (front as_name ts) ts

abbrev pub alias_by : Option (List ℕ) → List Terminal → Reading (Option (List ℕ))
alias_by (Some w) ts = Ok (Some w, rest ts)
alias_by None ts = Ok (None, ts)

abbrev pub alias_at : List Terminal → Reading (Option (List ℕ))
alias_at ts =
    if begins (is_keyword word.As) ts then read_as (λ w. Some w) (name_at (rest ts))
    else alias_by (front as_name ts) ts

-- the end of the query
abbrev pub end_at : List Terminal → Reading (Unit {0})
end_at [] = Ok (tt, [])
end_at (t ∷ ts) = stop (if is_tail t then NotACq part.Tail else Expected) (t ∷ ts)

-- the end of a query without a condition, where another region may be written
abbrev pub bare_end_at : List Terminal → Reading (Unit {0})
bare_end_at ts = if begins (is_symbol symbols.Comma) ts then stop (NotACq part.Join) ts else end_at ts

abbrev pub where_at : ℕ → Option (List ℕ) → List Terminal → Reading (Option Tree)
where_at depth alias ts =
    if begins (is_keyword word.Where) ts
    then (condition_at depth alias (rest ts) >>= λ condition. read_as (λ _. Some condition.0) (end_at condition.1))
    else read_as (λ _. None) (bare_end_at ts)

abbrev pub source_at : ℕ → List Terminal → Reading Asked
source_at depth ts =
    region_at ts >>= λ region.
    alias_at region.1 >>= λ alias.
    read_as (λ condition. record { region = region.0; alias = alias.0; condition = condition }) (where_at depth alias.0 alias.1)

abbrev pub query_within : ℕ → List Terminal → Reading Asked
query_within depth ts =
    if begins (is_keyword word.Import) ts then stop (NotACq part.Import) ts
    else (keyword_at word.Select ts >>= λ select.
    star_at select.1 >>= λ star.
    keyword_at word.From star.1 >>= λ from.
    symbol_at symbols.Slash from.1 >>= λ slash.
    source_at depth slash.1)

abbrev pub query_at : List Terminal → Reading Asked
query_at ts = query_within most_depth ts
