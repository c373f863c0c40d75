-- What is kept while a script is expanded, with one line more.
use Rattle.std.proofs.Common.{◌≡◌, ◌∙◌, ℕ, zero, suc, ◌+◌, ◌≤◌, ◌<◌, List, [], ◌∷◌, ◌++◌, length, get_or, set, reverse, refl, sym, ap, subst, arith}
use Rattle.std.proofs.lemmas.List.{length-set}
use Rattle.gr_script.specs.declared.line.Act.{Act}
use Rattle.gr_script.specs.declared.line.Line.{Line}
use Rattle.gr_script.specs.declared.line.Line.TheVariants as line
use Rattle.gr_script.specs.Absence.{IsAttendance, presence}
use Rattle.gr_script.specs.Expanded.{added}
use Rattle.gr_script.specs.Steps.{step_count}
use Rattle.gr_durable.specs.declared.expander.Expander.{Expander}
use Rattle.gr_durable.specs.declared.numbers.Numbers.{Numbers}
use Rattle.gr_durable.specs.Expanding.{AreNumbered, Fits, IsExpander, IsNumbered, no_numbers, stepped, with_added}
use Rattle.gr_durable.proofs.Numbered.{all_back, all_quiet, all_stepped, IsQuiet}

within : (clients client : ℕ) (all : List Numbers) → length all ≡ clients + 1 → client ≤ clients → client < length all
within clients client all many few = omega (arith, many, few)

pub steps : (clients client seq : ℕ) (done : Act) (before after : Expander) (past : List Line) → IsExpander clients before past
    → Fits clients past (line.Step client seq done)
    → ((past : List Line) → IsAttendance before.attendance past → IsAttendance after.attendance (line.Step client seq done ∷ past))
    → after.numbers.items ≡ set before.numbers.items client (stepped (get_or before.numbers.items client no_numbers) seq)
    → IsExpander clients after (line.Step client seq done ∷ past)
steps clients client seq done before after past is fits noted numbers_are = record {
  attended = noted past is.attended;
  many = ap (length {A = Numbers}) numbers_are ∙ length-set before.numbers.items client _ ∙ is.many;
  numbered = subst (λ (all : List Numbers). AreNumbered clients all (line.Step client seq done ∷ past)) (sym numbers_are)
      (all_stepped clients client seq before.numbers.items done past is.numbered fits.0
      (within clients client before.numbers.items is.many fits.0) fits.1);
}

pub backs : (clients client moment : ℕ) (before after : Expander) (past : List Line) → IsExpander clients before past → client ≤ clients
    → ((past : List Line) → IsAttendance before.attendance past → IsAttendance after.attendance (line.Back client moment ∷ past))
    → after.numbers.items
    ≡ set before.numbers.items client
    (with_added (get_or before.numbers.items client no_numbers) (length (presence client past).names))
    → IsExpander clients after (line.Back client moment ∷ past)
backs clients client moment before after past is few noted numbers_are = record {
  attended = noted past is.attended;
  many = ap (length {A = Numbers}) numbers_are ∙ length-set before.numbers.items client _ ∙ is.many;
  numbered = subst (λ (all : List Numbers). AreNumbered clients all (line.Back client moment ∷ past)) (sym numbers_are)
      (all_back clients client moment before.numbers.items past is.numbered few
      (within clients client before.numbers.items is.many few));
}

-- a line that changes neither
pub quiets : (clients : ℕ) (l : Line) (before after : Expander) (past : List Line) → IsExpander clients before past → IsQuiet l
    → (IsAttendance before.attendance past → IsAttendance after.attendance (l ∷ past)) → after.numbers.items ≡ before.numbers.items
    → IsExpander clients after (l ∷ past)
quiets clients l before after past is quiet noted same = record {
  attended = noted is.attended;
  many = ap (length {A = Numbers}) same ∙ is.many;
  numbered = subst (λ (all : List Numbers). AreNumbered clients all (l ∷ past)) (sym same)
      (all_quiet clients before.numbers.items l past quiet is.numbered);
}

-- before the first line
pub begins : (clients : ℕ) (expander : Expander) → IsAttendance expander.attendance [] → length expander.numbers.items ≡ clients + 1
    → ((client : ℕ) → get_or expander.numbers.items client no_numbers ≡ no_numbers) → IsExpander clients expander []
begins clients expander attended many none = record {
  attended = attended;
  many = many;
  numbered = λ client few. subst (λ (n : Numbers). IsNumbered n client []) (sym (none client)) (record {
    counted = refl;
    added_is = refl;
    all_kept = λ zero. refl;
    first = λ number within. refl;
    rest = λ place within. absurd (omega (arith, within));
  });
}

pub one_more : (all : List Numbers) (n : ℕ) → get_or (all ++ no_numbers ∷ []) n no_numbers ≡ get_or all n no_numbers
one_more [] zero = refl
one_more [] (suc n) = refl
one_more (first ∷ all) zero = refl
one_more (first ∷ all) (suc n) = one_more all n

-- the item at a place that is there, whatever stood in for it elsewhere
pub any_default : (all : List Numbers) (place : ℕ) (one other : Numbers) → place < length all → get_or all place one ≡ get_or all place other
any_default [] place one other within = absurd (omega (arith, within))
any_default (first ∷ all) zero one other within = refl
any_default (first ∷ all) (suc place) one other within = any_default all place one other (omega (arith, within))

pub found : (clients client place : ℕ) (all : List Numbers) (here : Numbers) → length all ≡ clients + 1 → client ≤ clients
    → here ≡ get_or all place here → place ≡ client → here ≡ get_or all client no_numbers
found clients client place all here many few is same =
    is ∙ ap (λ (n : ℕ). get_or all n here) same ∙ any_default all client here no_numbers (within clients client all many few)
