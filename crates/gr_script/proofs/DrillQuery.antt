-- What the query of the drill asks.
use Rattle.std.proofs.Common.{◌≡◌, ℕ, List, [], ◌∷◌, Result, Ok, Err, inl, inr, refl, ap}
use Rattle.std.specs.Prelude.{◌⊎◌, None, Some, pos, codes}
use Rattle.gr_value.specs.declared.scalar.Scalar.TheVariants.{Int}
use Rattle.gr_lex.specs.declared.token.Symbol.TheVariants.{Star, Slash, GreaterEqual}
use Rattle.gr_lex.specs.declared.token.Token.{Token}
use Rattle.gr_lex.specs.declared.token.TokenKind.{TokenKind}
use Rattle.gr_lex.specs.declared.token.TokenKind.TheVariants.{Word, Number, Symbol}
use Rattle.gr_lex.specs.Layout.{IsLaidOut}
use Rattle.gr_lex.proofs.Laid.{tokens_laid}
use Rattle.gr_oql.proofs.SoundQuery.{query_sound}
use Rattle.gr_oql.specs.declared.condition.Operand.TheVariants.{Field, Literal}
use Rattle.gr_oql.specs.declared.condition.Relation.TheVariants.{GreaterOrEqual}
use Rattle.gr_oql.specs.declared.condition.Test.TheVariants.{Compare}
use Rattle.gr_oql.specs.declared.fault.OqlFault.{OqlFault}
use Rattle.gr_oql.specs.declared.fault.OqlFault.TheVariants.{Memory}
use Rattle.gr_oql.specs.Grammar.{Spells, most_depth}
use Rattle.gr_oql.specs.Question.{Question}
use Rattle.gr_oql.specs.Reader.Reading.{query_within, condition_at}
use Rattle.gr_oql.specs.Terminals.{terminals_of}
use Rattle.gr_oql.specs.Tree.{any, all, test, tree, no_trees}
use Rattle.gr_script.specs.Drill.{drill_query, drill_region}

abbrev pub question : Question
question = record {
  text = drill_query;
  asked = record {
    region = drill_region;
    alias = None;
    condition =
        Some (any (tree (all (tree (test (Compare (Field (codes "n")) GreaterOrEqual (Literal (Int (pos 500))))) no_trees)) no_trees));
  };
}

abbrev token : TokenKind → ℕ → ℕ → Token
token kind start end = record { kind = kind; start = start; end = end }

abbrev tokens : List Token
tokens =
    token Word 0 6 ∷ token (Symbol Star) 7 8 ∷ token Word 9 13 ∷ token (Symbol Slash) 14 15 ∷ token Word 15 20 ∷ token Word 21 26
    ∷ token Word 27 28 ∷ token (Symbol GreaterEqual) 29 31 ∷ token (Number 500) 32 35 ∷ []

laid_out : IsLaidOut drill_query 0 tokens
laid_out = tokens_laid drill_query tokens refl

read : query_within most_depth (terminals_of drill_query tokens) ≡ Ok (question.asked, [])
unfolding condition_at
read = refl

spelled : Spells drill_query question
spelled = (tokens, laid_out, refl, (query_sound most_depth (terminals_of drill_query tokens) question.asked [] read).1)

same_question : {x y : Question} → ◌≡◌ {A = Result Question OqlFault} (Ok x) (Ok y) → x ≡ y
same_question is = cc

-- What is read of its text names the drill's region.
pub region_read : (q : Question) → ((other : Question) → Spells drill_query other
    → ◌≡◌ {A = Result Question OqlFault} (Ok q) (Ok other) ⊎ ◌≡◌ {A = Result Question OqlFault} (Ok q) (Err Memory))
    → q.asked.region ≡ drill_region
region_read q only =
    elim (only question spelled) [
      | inl is ↦ ap (λ (x : Question). x.asked.region) (same_question is)
      | inr is ↦ absurd cc
    ]
