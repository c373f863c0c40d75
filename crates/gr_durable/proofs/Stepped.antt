-- The numbers of steps in a script's expansion.
use Rattle.std.proofs.Common.{◌≡◌, ◌∙◌, ℕ, ◌+◌, ◌≤◌, ◌⊎◌, ◌≢◌, inl, inr, List, [], ◌∷◌, Bool, true, false, cond, eqb, ◌&&◌, length, refl, sym, ap, arith}
use Rattle.std.proofs.Common.{Option, Some, None, is_some, subst}
use Rattle.std.proofs.lemmas.Bool.{cases_Bool, cases_eq, eqb-true, eqb-false, eq-eqb, ne_eqb}
use Rattle.std.proofs.lemmas.List.{length-map}
use Rattle.gr_history.specs.declared.query_ask.QueryAsk.{QueryAsk}
use Rattle.gr_script.specs.declared.line.Act.{Act}
use Rattle.gr_script.specs.declared.line.Act.TheVariants as act
use Rattle.gr_script.specs.declared.line.Line.{Line}
use Rattle.gr_script.specs.declared.line.Line.TheVariants as line
use Rattle.gr_script.specs.declared.line.Step.{Step}
use Rattle.gr_script.specs.Absence.{is_late, presence}
use Rattle.gr_script.specs.Expanded.{added, expanded, new_number, return_of, returns, steps_on}
use Rattle.gr_script.specs.Rules.{Heading, AllStand, IsWithin}
use Rattle.gr_script.specs.Steps.{step_count, step_of}
use Rattle.gr_durable.proofs.Alike.{counted_on, one_counted}

abbrev pub of_client : ℕ → Line → Bool
of_client client l = is_some (step_of client l)

is_own : (client own seq : ℕ) (done : Act) → of_client client (line.Step own seq done) ≡ eqb own client
is_own client own seq done = either (eqb own client)
  where
    either : (test : Bool) → is_some (cond {A = Option Step} test (Some (record { seq = seq; act = done })) None) ≡ test
    either true = refl
    either false = refl

pub one_step : (client own seq : ℕ) (done : Act) (before : List Line)
    → step_count client (line.Step own seq done ∷ before) ≡ cond (eqb own client) 1 0 + step_count client before
one_step client own seq done before =
    one_counted (of_client client) (line.Step own seq done) before
    ∙ ap (λ (b : Bool). cond b 1 0 + step_count client before) (is_own client own seq done)

pub no_step : (client : ℕ) (l : Line) (before : List Line) → of_client client l ≡ false → step_count client (l ∷ before) ≡ step_count client before
no_step client l before isnt =
    one_counted (of_client client) l before ∙ ap (λ (b : Bool). cond b 1 0 + step_count client before) isnt ∙ omega arith

pub steps_counted : (client own number : ℕ) (all : List QueryAsk) (before : List Line)
    → step_count client (steps_on own number all before) ≡ cond (eqb own client) (length all) 0 + step_count client before
steps_counted client own number all before =
    counted_on (of_client client) (eqb own client) own (λ number ask. is_own client own number (act.Query ask)) number all before

steps_kept : (client : ℕ) (l : Line) (past : List Line) → of_client client l ≡ false → added client (l ∷ past) ≡ added client past
    → step_count client (expanded past) ≡ step_count client past + added client past
    → step_count client (l ∷ expanded past) ≡ step_count client (l ∷ past) + added client (l ∷ past)
steps_kept client l past isnt same rest =
    let here = no_step client l (expanded past) isnt in
    let old = no_step client l past isnt in
    omega (arith, here, old, same, rest)

-- A client has as many steps as before, with those of its returns.
pub steps_are : (client : ℕ) (past : List Line) → step_count client (expanded past) ≡ step_count client past + added client past
steps_are client [] = refl
steps_are client (line.Step own seq done ∷ past) =
    let here = one_step client own (seq + added own past) done (expanded past) in
    let old = one_step client own seq done past in
    let rest = steps_are client past in
    omega (arith, here, old, rest)
steps_are client (line.Back own moment ∷ past) =
    let stands = presence own past in
    let here = steps_counted client own (step_count own past + added own past + 1) (returns stands moment) (expanded past) in
    let many = length-map stands.names (return_of (is_late stands.moment moment)) in
    let none = no_step client (line.Back own moment) past refl in
    let rest = steps_are client past in
    by_case (eqb own client) (length (returns stands moment)) (length stands.names) (step_count client (expanded past)) many here none rest
  where
    by_case : (mine : Bool) (some names before : ℕ) {whole : ℕ} → some ≡ names → whole ≡ cond mine some 0 + before
        → step_count client (line.Back own moment ∷ past) ≡ step_count client past → before ≡ step_count client past + added client past
        → whole ≡ step_count client (line.Back own moment ∷ past) + (cond mine names 0 + added client past)
    by_case true some names before same is none rest = omega (arith, same, is, none, rest)
    by_case false some names before same is none rest = omega (arith, same, is, none, rest)
steps_are client (line.Leave own moment ∷ past) =
    let none = no_step client (line.Leave own moment) past refl in
    let rest = steps_are client past in
    omega (arith, none, rest)
steps_are client (line.Deliver to own number ∷ past) =
    let here = no_step client (line.Deliver to own (new_number own number past)) (expanded past) refl in
    let none = no_step client (line.Deliver to own number) past refl in
    let rest = steps_are client past in
    omega (arith, here, none, rest)
steps_are client (line.Report member ∷ past) = steps_kept client (line.Report member) past refl refl (steps_are client past)
steps_are client (line.Hear by of number ∷ past) = steps_kept client (line.Hear by of number) past refl refl (steps_are client past)
steps_are client (line.Sweep member moment ∷ past) = steps_kept client (line.Sweep member moment) past refl refl (steps_are client past)
steps_are client (line.Join member from ∷ past) = steps_kept client (line.Join member from) past refl refl (steps_are client past)
steps_are client (line.Depart member ∷ past) = steps_kept client (line.Depart member) past refl refl (steps_are client past)

-- ---- the new numbers

-- A step that stands behind its lines has a number there once the script is expanded.
pub new_within : (h : Heading) (client number : ℕ) (past : List Line) → AllStand h past → IsWithin 1 (step_count client past) number
    → IsWithin 1 (step_count client past + added client past) (new_number client number past)
new_within h client number [] all within = absurd (omega (arith, within.0, within.1))
new_within h client number (line.Step own seq done ∷ past) all within =
    let counted = one_step client own seq done past in
    elim (cases_eq own client) [
      | inl is ↦ elim (cases_eq seq number) [
        | inl same ↦
            let mine = eq-eqb own client is in
            let this = eq-eqb seq number same in
            let next = all.0.1 in
            let steps = ap (λ (c : ℕ). step_count c past) is in
            let here : new_number client number (line.Step own seq done ∷ past) ≡ number + added client past =
            ap (λ (b : Bool). cond (b && eqb seq number) (number + added client past) (new_number client number past)) mine
            ∙ ap (λ (b : Bool). cond b (number + added client past) (new_number client number past)) this in
            let more : step_count client (line.Step own seq done ∷ past) ≡ 1 + step_count client past =
            counted ∙ ap (λ (b : Bool). cond b 1 0 + step_count client past) mine in
            (omega (arith, here, within.0), omega (arith, here, more, next, steps, same))
        | inr other ↦
            let mine = eq-eqb own client is in
            let apart = ne_eqb seq number other in
            let next = all.0.1 in
            let steps = ap (λ (c : ℕ). step_count c past) is in
            let here : new_number client number (line.Step own seq done ∷ past) ≡ new_number client number past =
            ap (λ (b : Bool). cond (b && eqb seq number) (number + added client past) (new_number client number past)) mine
            ∙ ap (λ (b : Bool). cond b (number + added client past) (new_number client number past)) apart in
            let more : step_count client (line.Step own seq done ∷ past) ≡ 1 + step_count client past =
            counted ∙ ap (λ (b : Bool). cond b 1 0 + step_count client past) mine in
            let rest = new_within h client number past all.1 (within.0, omega (arith, within.1, more, next, steps, other)) in
            (omega (arith, here, rest.0), omega (arith, here, more, rest.1))
      ]
      | inr foreign ↦
          let mine = ne_eqb own client foreign in
          let here : new_number client number (line.Step own seq done ∷ past) ≡ new_number client number past =
          ap (λ (b : Bool). cond (b && eqb seq number) (number + added client past) (new_number client number past)) mine in
          let more : step_count client (line.Step own seq done ∷ past) ≡ step_count client past =
          counted ∙ ap (λ (b : Bool). cond b 1 0 + step_count client past) mine ∙ omega arith in
          let rest = new_within h client number past all.1 (within.0, omega (arith, within.1, more)) in
          (omega (arith, here, rest.0), omega (arith, here, more, rest.1))
    ]
new_within h client number (line.Back own moment ∷ past) all within =
    let none = no_step client (line.Back own moment) past refl in
    let rest = new_within h client number past all.1 (within.0, omega (arith, within.1, none)) in
    (rest.0, omega (arith, none, rest.1))
new_within h client number (line.Leave own moment ∷ past) all within =
    let none = no_step client (line.Leave own moment) past refl in
    let rest = new_within h client number past all.1 (within.0, omega (arith, within.1, none)) in
    (rest.0, omega (arith, none, rest.1))
new_within h client number (line.Deliver to own seq ∷ past) all within =
    let none = no_step client (line.Deliver to own seq) past refl in
    let rest = new_within h client number past all.1 (within.0, omega (arith, within.1, none)) in
    (rest.0, omega (arith, none, rest.1))
new_within h client number (line.Report member ∷ past) all within =
    let none = no_step client (line.Report member) past refl in
    let rest = new_within h client number past all.1 (within.0, omega (arith, within.1, none)) in
    (rest.0, omega (arith, none, rest.1))
new_within h client number (line.Hear by of heard ∷ past) all within =
    let none = no_step client (line.Hear by of heard) past refl in
    let rest = new_within h client number past all.1 (within.0, omega (arith, within.1, none)) in
    (rest.0, omega (arith, none, rest.1))
new_within h client number (line.Sweep member moment ∷ past) all within =
    let none = no_step client (line.Sweep member moment) past refl in
    let rest = new_within h client number past all.1 (within.0, omega (arith, within.1, none)) in
    (rest.0, omega (arith, none, rest.1))
new_within h client number (line.Join member from ∷ past) all within =
    let none = no_step client (line.Join member from) past refl in
    let rest = new_within h client number past all.1 (within.0, omega (arith, within.1, none)) in
    (rest.0, omega (arith, none, rest.1))
new_within h client number (line.Depart member ∷ past) all within =
    let none = no_step client (line.Depart member) past refl in
    let rest = new_within h client number past all.1 (within.0, omega (arith, within.1, none)) in
    (rest.0, omega (arith, none, rest.1))
