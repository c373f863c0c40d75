-- A text asks what it spells, and has the fault that the grammar of queries gives it.
use Rattle.std.proofs.Common.{◌≡◌, List, ℕ, Ok, inl, inr, ap}
use Rattle.std.specs.Prelude.{◌⊎◌}
use Rattle.gr_oql.proofs.Asking.{only, only_fault}
use Rattle.gr_oql.specs.declared.fault.OqlFault.{OqlFault}
use Rattle.gr_oql.specs.declared.fault.OqlFault.TheVariants as query
use Rattle.gr_oql.specs.FirstFault.{IsFault}
use Rattle.gr_oql.specs.Grammar.{Spells}
use Rattle.gr_oql.specs.Question.{Question}
use Rattle.gr_oql.specs.Questions.{question_of}
use Rattle.gr_script.specs.Halts.{Halts, query_halt}
use Rattle.gr_script.specs.Items.{query_from}

pub query_spelled : (text : List ℕ) (q : Question) → Spells text q → query_from (question_of text) ≡ Ok q
query_spelled text q is = ap query_from (only text q is)

pub query_halted : (text : List ℕ) (f : OqlFault) → (f ≡ query.Memory) ⊎ IsFault text f
    → Halts (query_halt f) (query_from (question_of text))
query_halted text query.Memory is = tt
query_halted text (query.Lex l) (inl none) = absurd cc
query_halted text (query.Lex l) (inr is) = ap query_from (only_fault text (query.Lex l) is)
query_halted text (query.Expected place) (inl none) = absurd cc
query_halted text (query.Expected place) (inr is) = ap query_from (only_fault text (query.Expected place) is)
query_halted text (query.NotACq place part) (inl none) = absurd cc
query_halted text (query.NotACq place part) (inr is) = ap query_from (only_fault text (query.NotACq place part) is)
query_halted text (query.TooDeep place) (inl none) = absurd cc
query_halted text (query.TooDeep place) (inr is) = ap query_from (only_fault text (query.TooDeep place) is)
