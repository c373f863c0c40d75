-- What the tokens of a text ask, or the fault and where it is.
use Rattle.std.specs.Prelude.{◌≡◌, ℕ, ◌-◌, List, length, drop, Result, Ok, Err}
use Rattle.gr_lex.specs.declared.token.Token.{Token}
use Rattle.gr_lex.specs.declared.fault.LexFault.{LexFault}
use Rattle.gr_lex.specs.declared.fault.LexFault.TheVariants as lex
use Rattle.gr_oql.specs.declared.fault.OqlFault.{OqlFault}
use Rattle.gr_oql.specs.declared.fault.OqlFault.TheVariants as fault
use Rattle.gr_oql.specs.declared.halt.Wrong.{Wrong}
use Rattle.gr_oql.specs.Question.{Asked, Question}
use Rattle.gr_oql.specs.Terminals.{Terminal, terminals_of, front, as_number}
use Rattle.gr_oql.specs.FirstFault.{place_of, fault_by}
use Rattle.gr_oql.specs.Reader.Reading.{Reading, query_at}

-- the fault at the tokens of which so many are left
abbrev pub fault_of : List ℕ → List Token → Wrong → List Terminal → OqlFault
fault_of text tokens w left = fault_by (place_of text (drop (length tokens - length left) tokens)) (front as_number left) w

abbrev pub answer : List ℕ → List Token → Reading Asked → Result Question OqlFault
answer text tokens (Ok x) = Ok (record { text = text; asked = x.0 })
answer text tokens (Err e) = Err (fault_of text tokens e.0 e.1)

abbrev pub answer_of_tokens : List ℕ → Result (List Token) LexFault → Result Question OqlFault
answer_of_tokens text (Ok tokens) = answer text tokens (query_at (terminals_of text tokens))
answer_of_tokens text (Err f) = Err (fault.Lex f)

-- What was answered is what is read, unless memory ran out. That is never the fault of a token.
abbrev pub Answers : Result Question OqlFault → Result Question OqlFault → Type 0
Answers (Ok q) read = read ≡ Ok q
Answers (Err fault.Memory) read = Unit {0}
Answers (Err (fault.Lex lex.Memory)) read = ⊥
Answers (Err (fault.Lex (lex.BadCharacter place))) read = read ≡ Err (fault.Lex (lex.BadCharacter place))
Answers (Err (fault.Lex (lex.OpenText place))) read = read ≡ Err (fault.Lex (lex.OpenText place))
Answers (Err (fault.Lex (lex.NumberTooLarge place))) read = read ≡ Err (fault.Lex (lex.NumberTooLarge place))
Answers (Err (fault.Expected place)) read = read ≡ Err (fault.Expected place)
Answers (Err (fault.NotACq place part)) read = read ≡ Err (fault.NotACq place part)
Answers (Err (fault.TooDeep place)) read = read ≡ Err (fault.TooDeep place)
