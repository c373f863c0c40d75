-- Conditions beside their trees, and how their parts are read.
use Rattle.std.proofs.Common.{◌≡◌, ℕ, zero, suc, List, [], ◌∷◌, ◌++◌, map, Option, false, Vec, Global, refl, ap, ◌∙◌, rules}
use Rattle.std.proofs.lemmas.List.{map_push}
use Rattle.gr_lex.specs.declared.token.Symbol.TheVariants as symbols
use Rattle.gr_oql.specs.declared.condition.Condition.{Condition, Any, All, the_lemmas}
use Rattle.gr_oql.specs.declared.keyword.Keyword.TheVariants as word
use Rattle.gr_oql.specs.Tree.{any, all, test}
use Rattle.gr_oql.specs.View.{tree_of, in_order}
use Rattle.gr_oql.specs.Terminals.{Terminal, begins, is_keyword, is_symbol}
use Rattle.gr_oql.specs.Reader.Reading.{read_as, part_at, test_at}

pub tree_of-All : (parts : Vec Condition Global) → tree_of (All parts) ≡ all (in_order (map tree_of parts.items))
tree_of-All parts = search (rules, the_lemmas)

pub tree_of-Any : (parts : Vec Condition Global) → tree_of (Any parts) ≡ any (in_order (map tree_of parts.items))
tree_of-Any parts = search (rules, the_lemmas)

-- a part that is neither under a NOT nor in brackets
pub part_at_test : (alias : Option (List ℕ)) (depth : ℕ) (ts : List Terminal) → begins (is_keyword word.Not) ts ≡ false
    → begins (is_symbol symbols.LeftBracket) ts ≡ false → part_at alias depth ts ≡ read_as test (test_at alias ts)
part_at_test alias zero ts no_not no_bracket = rw (no_not, no_bracket) refl
part_at_test alias (suc depth) ts no_not no_bracket = rw (no_not, no_bracket) refl

pub pushed : (parts longer : List Condition) (c : Condition) → longer ≡ parts ++ c ∷ [] → map tree_of longer ≡ map tree_of parts
    ++ tree_of c ∷ []
pushed parts longer c is = ap (map tree_of) is ∙ map_push tree_of parts c

pub first_pushed : (parts longer : List Condition) (c : Condition) → parts ≡ [] → longer ≡ parts ++ c ∷ []
    → map tree_of longer ≡ tree_of c ∷ []
first_pushed parts longer c none is = ap (map tree_of) (is ∙ ap (λ (l : List Condition). l ++ c ∷ []) none)
