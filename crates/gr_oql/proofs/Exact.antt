-- A text is read where its tokens spell a query, and there alone.
use Rattle.std.proofs.Common.{◌≡◌, ℕ, List, ◌++◌, Result, Ok, Err, inl, inr, ⊎_elim, refl, sym, ap, ◌∙◌, subst}
use Rattle.std.specs.Prelude.{◌⊎◌, IfOk, IfErr}
use Rattle.gr_lex.specs.declared.token.Token.{Token}
use Rattle.gr_lex.specs.declared.fault.LexFault.{LexFault}
use Rattle.gr_lex.specs.declared.fault.LexFault.TheVariants as lex
use Rattle.gr_lex.specs.Layout.{IsLaidOut}
use Rattle.gr_lex.specs.Faults as lexical
use Rattle.gr_oql.specs.declared.fault.OqlFault.{OqlFault}
use Rattle.gr_oql.specs.declared.fault.OqlFault.TheVariants as fault
use Rattle.gr_oql.specs.Question.{Question}
use Rattle.gr_oql.specs.Terminals.{Terminal, terminals_of}
use Rattle.gr_oql.specs.Reader.Reading.{query_at}
use Rattle.gr_oql.specs.Reader.Answers.{answer, answer_of_tokens, Answers}
use Rattle.gr_oql.specs.Reader.Asking.{asked, question}
use Rattle.gr_oql.specs.declared.clauses.Clauses.{Clauses}
use Rattle.gr_oql.specs.Grammar.{Spells, most_depth}
use Rattle.gr_oql.specs.FirstFault.{IsFault}
use Rattle.gr_oql.proofs.Asking.{answer_spelled, spelled_answered}
use Rattle.gr_oql.proofs.SoundQuery.{query_sound}
use Rattle.gr_oql.proofs.FaultTexts.{answered, fault_there}

-- what the code keeps of what it read
pub clauses_spelled : (text : List ℕ) (tokens : List Token) (s : Clauses) (left : List Terminal) → IsLaidOut text 0 tokens
    → query_at (terminals_of text tokens) ≡ Ok (asked s, left) → Spells text (question text s)
clauses_spelled text tokens s left laid read =
    (tokens, laid, refl, (query_sound most_depth (terminals_of text tokens) (asked s) left read).1)

-- An answer that is what is read, where that is known, or want of memory.
answers_known : (result read known : Result Question OqlFault) → Answers result read → read ≡ known → (result ≡ known)
    ⊎ (result ≡ Err fault.Memory)
answers_known (Ok q) read known answers is = inl (sym answers ∙ is)
answers_known (Err fault.Memory) read known answers is = inr refl
answers_known (Err (fault.Lex lex.Memory)) read known answers is = absurd answers
answers_known (Err (fault.Lex (lex.BadCharacter place))) read known answers is = inl (sym answers ∙ is)
answers_known (Err (fault.Lex (lex.OpenText place))) read known answers is = inl (sym answers ∙ is)
answers_known (Err (fault.Lex (lex.NumberTooLarge place))) read known answers is = inl (sym answers ∙ is)
answers_known (Err (fault.Expected place)) read known answers is = inl (sym answers ∙ is)
answers_known (Err (fault.NotACq place part)) read known answers is = inl (sym answers ∙ is)
answers_known (Err (fault.TooDeep place)) read known answers is = inl (sym answers ∙ is)

no_lexed_memory : (result : Result Question OqlFault) → Answers result (Err (fault.Lex lex.Memory)) → result ≡ Err fault.Memory
no_lexed_memory (Ok q) answers = absurd (cc)
no_lexed_memory (Err fault.Memory) answers = refl
no_lexed_memory (Err (fault.Lex lex.Memory)) answers = absurd answers
no_lexed_memory (Err (fault.Lex (lex.BadCharacter place))) answers = absurd (cc)
no_lexed_memory (Err (fault.Lex (lex.OpenText place))) answers = absurd (cc)
no_lexed_memory (Err (fault.Lex (lex.NumberTooLarge place))) answers = absurd (cc)
no_lexed_memory (Err (fault.Expected place)) answers = absurd (cc)
no_lexed_memory (Err (fault.NotACq place part)) answers = absurd (cc)
no_lexed_memory (Err (fault.TooDeep place)) answers = absurd (cc)

module _ (text : List ℕ) (lexed : Result (List Token) LexFault) (result : Result Question OqlFault)
    (answers : Answers result (answer_of_tokens text lexed)) where
  -- an answer where it is known what the tokens are, unless memory is refused
  known : (l : Result (List Token) LexFault) (answer : Result Question OqlFault) → answer_of_tokens text l ≡ answer → (lexed ≡ l)
      ⊎ (lexed ≡ Err lex.Memory) → (result ≡ answer) ⊎ (result ≡ Err fault.Memory)
  known l answer is lexes =
      ⊎_elim
      (λ same. answers_known result _ answer answers (ap (answer_of_tokens text) same ∙ is))
      (λ none. inr (no_lexed_memory result
      (subst (λ (l : Result (List Token) LexFault). Answers result (answer_of_tokens text l)) none answers)))
      lexes

  -- what is spelled so is read
  pub only : ((ts : List Token) → IsLaidOut text 0 ts → (lexed ≡ Ok ts) ⊎ (lexed ≡ Err lex.Memory)) → (q : Question) → Spells text q
      → (result ≡ Ok q) ⊎ (result ≡ Err fault.Memory)
  only lexes q is =
      known (Ok is.0) (Ok q) (spelled_answered text q is) (lexes is.0 is.1)

  -- a text with such a fault has that answer
  pub only_fault : ((ts : List Token) → IsLaidOut text 0 ts → (lexed ≡ Ok ts) ⊎ (lexed ≡ Err lex.Memory))
      → ((f : LexFault) → lexical.IsFault text f → (lexed ≡ Err f) ⊎ (lexed ≡ Err lex.Memory)) → (f : OqlFault) → IsFault text f
      → (result ≡ Err f) ⊎ (result ≡ Err fault.Memory)
  only_fault lexes faults f (inl h) = known (Err h.0) (Err f) (ap (λ (g : OqlFault). Err g) (sym h.2)) (faults h.0 h.1)
  only_fault lexes faults f (inr h) = known (Ok (h.0 ++ h.1)) (Err f) (fault_there text f h) (lexes (h.0 ++ h.1) h.3)

lexed_spelled : (text : List ℕ) (lexed : Result (List Token) LexFault) (q : Question) → IfOk lexed (λ ts. IsLaidOut text 0 ts)
    → answer_of_tokens text lexed ≡ Ok q → Spells text q
lexed_spelled text (Ok tokens) q laid read = answer_spelled text tokens _ q laid refl read
lexed_spelled text (Err fault) q laid read = absurd (cc)

-- what is read is spelled so
pub spelled : (text : List ℕ) (lexed : Result (List Token) LexFault) (result : Result Question OqlFault)
    → Answers result (answer_of_tokens text lexed) → IfOk lexed (λ ts. IsLaidOut text 0 ts) → IfOk result (Spells text)
spelled text lexed (Ok q) read laid = lexed_spelled text lexed q laid read
spelled text lexed (Err fault) read laid = tt

-- a fault of the tokens, or of what they ask
lexed_fault : (text : List ℕ) (lexed : Result (List Token) LexFault) (f : OqlFault) → IfOk lexed (λ ts. IsLaidOut text 0 ts)
    → IfErr lexed (λ l. (l ≡ lex.Memory) ⊎ lexical.IsFault text l) → (f ≡ fault.Lex lex.Memory → ⊥) → answer_of_tokens text lexed ≡ Err f
    → IsFault text f
lexed_fault text (Ok tokens) f laid faults other read = answered text tokens _ f laid refl read
lexed_fault text (Err l) f laid faults other read =
    let given : fault.Lex l ≡ f = cc in
    ⊎_elim (λ none. absurd (other (sym given ∙ ap fault.Lex none))) (λ is. inl (l, is, sym given)) faults

-- a fault is the first that the grammar has
pub stops : (text : List ℕ) (lexed : Result (List Token) LexFault) (result : Result Question OqlFault)
    → Answers result (answer_of_tokens text lexed) → IfOk lexed (λ ts. IsLaidOut text 0 ts)
    → IfErr lexed (λ l. (l ≡ lex.Memory) ⊎ lexical.IsFault text l) → IfErr result (λ f. (f ≡ fault.Memory) ⊎ IsFault text f)
stops text lexed (Ok q) read laid faults = tt
stops text lexed (Err fault.Memory) read laid faults = inl refl
stops text lexed (Err (fault.Lex lex.Memory)) read laid faults = absurd read
stops text lexed (Err (fault.Lex (lex.BadCharacter place))) read laid faults = inr (lexed_fault text lexed _ laid faults (λ is. cc) read)
stops text lexed (Err (fault.Lex (lex.OpenText place))) read laid faults = inr (lexed_fault text lexed _ laid faults (λ is. cc) read)
stops text lexed (Err (fault.Lex (lex.NumberTooLarge place))) read laid faults = inr (lexed_fault text lexed _ laid faults (λ is. cc) read)
stops text lexed (Err (fault.Expected place)) read laid faults = inr (lexed_fault text lexed _ laid faults (λ is. cc) read)
stops text lexed (Err (fault.NotACq place part)) read laid faults = inr (lexed_fault text lexed _ laid faults (λ is. cc) read)
stops text lexed (Err (fault.TooDeep place)) read laid faults = inr (lexed_fault text lexed _ laid faults (λ is. cc) read)
