-- What a text asks, as one answer, is what the grammar says.
use Rattle.std.proofs.Common.{◌≡◌, ℕ, List, ◌++◌, Result, Ok, Err, inl, inr, refl, sym, ap, ◌∙◌, subst}
use Rattle.gr_lex.specs.Layout.{IsLaidOut}
use Rattle.gr_lex.specs.declared.token.Token.{Token}
use Rattle.gr_lex.specs.declared.fault.LexFault.{LexFault}
use Rattle.gr_lex.specs.Reader.Reading.{tokens_of}
use Rattle.gr_lex.proofs.Laid.{tokens_laid, fault_found}
use Rattle.gr_lex.proofs.Only.{tokens_only, tokens_fault}
use Rattle.gr_oql.specs.declared.fault.OqlFault.{OqlFault}
use Rattle.gr_oql.specs.declared.fault.OqlFault.TheVariants as fault
use Rattle.gr_oql.specs.Question.{Asked, Question}
use Rattle.gr_oql.specs.Questions.{question_of}
use Rattle.gr_oql.specs.Terminals.{terminals_of}
use Rattle.gr_oql.specs.Reader.Answers.{answer, answer_of_tokens}
use Rattle.gr_oql.specs.Reader.Reading.{Reading, query_at}
use Rattle.gr_oql.specs.Grammar.{Spells, most_depth}
use Rattle.gr_oql.specs.FirstFault.{IsFault}
use Rattle.gr_oql.proofs.SoundQuery.{query_sound}
use Rattle.gr_oql.proofs.CompleteQuery.{query_complete}
use Rattle.gr_oql.proofs.FaultTexts.{answered, fault_there}

same_question : {x y : Question} → ◌≡◌ {A = Result Question OqlFault} (Ok x) (Ok y) → x ≡ y
same_question is = cc

-- what is answered is spelled so
pub answer_spelled : (text : List ℕ) (tokens : List Token) (read : Reading Asked) (q : Question) → IsLaidOut text 0 tokens
    → read ≡ query_at (terminals_of text tokens) → answer text tokens read ≡ Ok q → Spells text q
answer_spelled text tokens (Ok x) q laid is read =
    let sound = query_sound most_depth (terminals_of text tokens) x.0 x.1 (sym is) in
    subst (Spells text) (same_question read) (tokens, laid, refl, sound.1)
answer_spelled text tokens (Err e) q laid is read = absurd (cc)

-- what is spelled so is answered
pub spelled_answered : (text : List ℕ) (q : Question) (is : Spells text q)
    → answer text is.0 (query_at (terminals_of text is.0)) ≡ Ok q
spelled_answered text q is =
    let read = query_complete most_depth (terminals_of text is.0) q.asked is.3 in
    rw read (ap (λ (l : List ℕ). Ok (record { text = l; asked = q.asked })) (sym is.2))

-- by what the tokens are
spelled_by : (text : List ℕ) (tokens : Result (List Token) LexFault) (q : Question) → tokens_of text ≡ tokens
    → answer_of_tokens text tokens ≡ Ok q → Spells text q
spelled_by text (Ok tokens) q lexed is = answer_spelled text tokens _ q (tokens_laid text tokens lexed) refl is
spelled_by text (Err fault) q lexed is = absurd (cc)

stops_by : (text : List ℕ) (tokens : Result (List Token) LexFault) (f : OqlFault) → tokens_of text ≡ tokens
    → answer_of_tokens text tokens ≡ Err f → IsFault text f
stops_by text (Ok tokens) f lexed is = answered text tokens _ f (tokens_laid text tokens lexed) refl is
stops_by text (Err l) f lexed is = let given : fault.Lex l ≡ f = cc in inl (l, fault_found text l lexed, sym given)

pub spelled : (text : List ℕ) (q : Question) → question_of text ≡ Ok q → Spells text q
spelled text q is = spelled_by text (tokens_of text) q refl is

pub stops : (text : List ℕ) (f : OqlFault) → question_of text ≡ Err f → IsFault text f
stops text f is = stops_by text (tokens_of text) f refl is

pub only : (text : List ℕ) (q : Question) → Spells text q → question_of text ≡ Ok q
only text q is = ap (answer_of_tokens text) (tokens_only text is.0 is.1) ∙ spelled_answered text q is

pub only_fault : (text : List ℕ) (f : OqlFault) → IsFault text f → question_of text ≡ Err f
only_fault text f (inl h) = ap (answer_of_tokens text) (tokens_fault text h.0 h.1) ∙ ap (λ (g : OqlFault). Err g) (sym h.2)
only_fault text f (inr h) = ap (answer_of_tokens text) (tokens_only text (h.0 ++ h.1) h.3) ∙ fault_there text f h
