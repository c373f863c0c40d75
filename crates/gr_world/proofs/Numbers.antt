-- The steps of a client are in order.
use Rattle.std.proofs.Common.{◌≡◌, ℕ, ◌+◌, ◌≤◌, ◌<◌, List, [], ◌∷◌, Bool, true, false, ◌==◌, refl, sym, ap, ◌∙◌, subst}
use Rattle.std.proofs.Common.{arith, if◌then◌else◌}
use Rattle.std.specs.Prelude.{Option, Some, None}
use Rattle.std.proofs.lemmas.Bool.Decides.{nat_tests}
use Rattle.gr_script.specs.declared.line.Act.{Act}
use Rattle.gr_script.specs.declared.line.Act.TheVariants as act
use Rattle.gr_script.specs.declared.line.Line.{Line}
use Rattle.gr_script.specs.declared.line.Line.TheVariants.{Step, Deliver, Hear, Sweep, Join, Depart, Leave, Back}
use Rattle.gr_script.specs.declared.line.Line.TheVariants as line
use Rattle.gr_script.specs.Rules.{Heading, StandsAfter, AllStand}
use Rattle.gr_script.specs.Steps.{step_count}
use Rattle.gr_world.specs.Clients.{add_some}
use Rattle.std.specs.Option.{is_some}
use Rattle.std.proofs.lemmas.List.Sums.{sum_by-cons}
use Rattle.gr_script.specs.Steps.{step_of}
use Rattle.gr_script.specs.declared.line.Step.{Step as StepOf}
use Rattle.std.proofs.Common.{cond}
use Rattle.gr_world.proofs.Events.{equal_numbers}

-- the number of the client's step, where the line is one
abbrev pub number_at : ℕ → Line → Option ℕ
number_at client (Step own number (act.Call ask)) = if own == client then Some number else None
number_at client (Step own number (act.Query ask)) = if own == client then Some number else None
number_at client (Step own number (act.Peek key)) = if own == client then Some number else None
number_at client (Deliver to of number) = None
number_at client (line.Report of) = None
number_at client (Hear to of number) = None
number_at client (Sweep of moment) = None
number_at client (Join joiner provider) = None
number_at client (Depart of) = None
number_at client (Leave who moment) = None
number_at client (Back who moment) = None

abbrev pub numbers : ℕ → List Line → List ℕ
numbers client [] = []
numbers client (line ∷ past) = add_some (number_at client line) (numbers client past)

abbrev pub AllBelow : ℕ → List ℕ → Type 0
AllBelow n [] = Unit {0}
AllBelow n (first ∷ rest) = (first < n) × AllBelow n rest

-- the numbers are distinct and in order
abbrev pub Descends : List ℕ → Type 0
Descends [] = Unit {0}
Descends (first ∷ rest) = AllBelow first rest × Descends rest

all_below : (n m : ℕ) (xs : List ℕ) → n ≤ m → AllBelow n xs → AllBelow m xs
all_below n m [] le h = tt
all_below n m (x ∷ xs) le h = (omega (arith, le, h.0), all_below n m xs le h.1)

steps_more : (client : ℕ) (line : Line) (past : List Line)
    → step_count client (line ∷ past) ≡ (if is_some (step_of client line) then 1 else 0) + step_count client past
steps_more client line past = sum_by-cons (λ one. if is_some (step_of client one) then 1 else 0) line past

steps_grow : (client : ℕ) (line : Line) (past : List Line) → step_count client past ≤ step_count client (line ∷ past)
steps_grow client line past = omega (arith, steps_more client line past)

-- The number is the next, and one more step is counted.
record IsNextNumber (client : ℕ) (line : Line) (past : List Line) (number : ℕ) : Type 0 where
  number_is : number ≡ step_count client past + 1
  counted : step_count client (line ∷ past) ≡ step_count client past + 1

next_step : (client own number : ℕ) (act : Act) (past : List Line) → own ≡ client → number ≡ step_count own past + 1
    → IsNextNumber client (Step own number act) past number
next_step client own number act past same next = record {
  number_is = next ∙ ap (λ c. step_count c past + 1) same;
  counted =
      let more = steps_more client (Step own number act) past in
      let found : Option StepOf = Some (record { seq = number; act = act }) in
      let here : step_of client (Step own number act) ≡ found =
      ap (λ (b : Bool). cond {A = Option StepOf} b (Some (record { seq = number; act = act })) None) (same_numbers own client same) in
      omega (arith, more, ap one_of here);
}
  where
    one_of : Option StepOf → ℕ
    one_of found = if is_some found then 1 else 0

    same_numbers : (a b : ℕ) → a ≡ b → (a == b) ≡ true
    same_numbers a b e = grind (arith, nat_tests)

next_number : (heading : Heading) (client : ℕ) (line : Line) (past : List Line) (number : ℕ) → StandsAfter heading past line
    → number_at client line ≡ Some number → IsNextNumber client line past number
next_number heading client (Step own seq act_of) past number stands h = by_act act_of h
  where
    at_test : (a : Act) (b : Bool) → (own == client) ≡ b → (if b then Some seq else None) ≡ Some number
        → IsNextNumber client (Step own seq a) past number
    at_test a true e h =
        let same : seq ≡ number = cc in
        subst (IsNextNumber client (Step own seq a) past) same (next_step client own seq a past (equal_numbers own client e) stands.1)
    at_test a false e h = absurd (no h)
      where
        no : None ≡ Some number → ⊥
        no h = cc

    by_act : (a : Act) → number_at client (Step own seq a) ≡ Some number → IsNextNumber client (Step own seq a) past number
    by_act (act.Call ask) h = at_test (act.Call ask) (own == client) refl h
    by_act (act.Query ask) h = at_test (act.Query ask) (own == client) refl h
    by_act (act.Peek key) h = at_test (act.Peek key) (own == client) refl h
next_number heading client (Deliver to of seq) past number stands h = absurd (cc)
next_number heading client (line.Report of) past number stands h = absurd (cc)
next_number heading client (Hear to of seq) past number stands h = absurd (cc)
next_number heading client (Sweep of moment) past number stands h = absurd (cc)
next_number heading client (Join joiner provider) past number stands h = absurd (cc)
next_number heading client (Depart of) past number stands h = absurd (cc)
next_number heading client (Leave who moment) past number stands h = absurd (cc)
next_number heading client (Back who moment) past number stands h = absurd (cc)

below_steps : (heading : Heading) (client : ℕ) (past : List Line) → AllStand heading past
    → AllBelow (step_count client past + 1) (numbers client past)
below_steps heading client [] h = tt
below_steps heading client (line ∷ past) h = at_number (number_at client line) refl (all_below _ _ (numbers client past)
    (omega (arith, steps_grow client line past)) (below_steps heading client past h.1))
  where
    at_number : (o : Option ℕ) → number_at client line ≡ o → AllBelow (step_count client (line ∷ past) + 1) (numbers client past)
        → AllBelow (step_count client (line ∷ past) + 1) (add_some o (numbers client past))
    at_number None e next = next
    at_number (Some number) e next =
        let is = next_number heading client line past number h.0 e in
        (omega (arith, is.number_is, is.counted), next)

pub numbers_descend-holds : (heading : Heading) (client : ℕ) (past : List Line) → AllStand heading past → Descends (numbers client past)
numbers_descend-holds heading client [] h = tt
numbers_descend-holds heading client (line ∷ past) h =
    at_number (number_at client line) refl (numbers_descend-holds heading client past h.1)
  where
    at_number : (o : Option ℕ) → number_at client line ≡ o → Descends (numbers client past) → Descends (add_some o (numbers client past))
    at_number None e next = next
    at_number (Some number) e next =
        let is = next_number heading client line past number h.0 e in
        (subst (λ n. AllBelow n (numbers client past)) (sym is.number_is) (below_steps heading client past h.1), next)
