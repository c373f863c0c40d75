-- The new numbers that are kept, with one line more.
use Rattle.std.proofs.Common.{◌≡◌, ◌∙◌, ◌≢◌, ◌⊎◌, inl, inr, ℕ, ◌+◌, ◌-◌, ◌≤◌, ◌<◌, List, [], ◌∷◌, ◌++◌, Bool, true, false, cond, eqb, ◌&&◌, leb}
use Rattle.std.proofs.Common.{length, get_or, set, refl, sym, ap, subst, arith}
use Rattle.std.proofs.lemmas.Bool.{cases_Bool, cases_eq, cases_lt, eqb-true, eqb-false, eq-eqb, ne_eqb, le-leb, lt-leb}
use Rattle.std.proofs.lemmas.List.{get_or_append_left, get_or-append-add, get_or-set_same, get_or-set_other, length-append}
use Rattle.gr_script.specs.declared.line.Act.{Act}
use Rattle.gr_script.specs.declared.line.Line.{Line}
use Rattle.gr_script.specs.declared.line.Line.TheVariants as line
use Rattle.gr_script.specs.Absence.{presence}
use Rattle.gr_script.specs.Expanded.{added, new_number}
use Rattle.gr_script.specs.Rules.{IsWithin}
use Rattle.gr_script.specs.Steps.{step_count}
use Rattle.gr_durable.specs.declared.numbers.Numbers.{Numbers}
use Rattle.gr_durable.specs.Expanding.{AreNumbered, Fits, IsNumbered, no_numbers, stepped, with_added}
use Rattle.gr_durable.proofs.Stepped.{no_step, of_client, one_step}

-- ---- one client's next step

own_count : (client seq : ℕ) (done : Act) (past : List Line)
    → step_count client (line.Step client seq done ∷ past) ≡ 1 + step_count client past
own_count client seq done past =
    one_step client client seq done past ∙ ap (λ (b : Bool). cond b 1 0 + step_count client past) (eq-eqb client client refl)

own_number : (client seq number : ℕ) (done : Act) (past : List Line)
    → new_number client number (line.Step client seq done ∷ past) ≡ cond (eqb seq number) (number + added client past) (new_number client number past)
own_number client seq number done past =
    ap (λ (b : Bool). cond (b && eqb seq number) (number + added client past) (new_number client number past)) (eq-eqb client client refl)

this_number : (client seq number : ℕ) (done : Act) (past : List Line) → number ≡ seq
    → new_number client number (line.Step client seq done ∷ past) ≡ number + added client past
this_number client seq number done past is =
    own_number client seq number done past
    ∙ ap (λ (b : Bool). cond b (number + added client past) (new_number client number past)) (eq-eqb seq number (sym is))

other_number : (client seq number : ℕ) (done : Act) (past : List Line) → number ≢ seq
    → new_number client number (line.Step client seq done ∷ past) ≡ new_number client number past
other_number client seq number done past isnt =
    own_number client seq number done past
    ∙ ap (λ (b : Bool). cond b (number + added client past) (new_number client number past)) (ne_eqb seq number (λ is. isnt (sym is)))

kept_step : (n : Numbers) (client seq : ℕ) (done : Act) (past : List Line) → IsNumbered n client past → seq ≡ step_count client past + 1
    → n.added ≡ 0
    → IsNumbered (record { kept = seq; moved = n.moved; added = n.added }) client (line.Step client seq done ∷ past)
kept_step n client seq done past is next zero =
    let none = is.all_kept zero in
    let counted = is.counted in
    let more = own_count client seq done past in
    record {
      counted = omega (arith, none, counted, more, next);
      added_is = is.added_is;
      all_kept = is.all_kept;
      first = λ number within. elim (cases_eq number seq) [
        | inl this ↦ this_number client seq number done past this ∙ omega (arith, zero, is.added_is)
        | inr other ↦ other_number client seq number done past other
            ∙ is.first number (omega (arith, within, other, none, counted, next))
      ];
      rest = λ place within. absurd (omega (arith, within, none));
    }

moved_step : (n : Numbers) (client seq : ℕ) (done : Act) (past : List Line) → IsNumbered n client past → seq ≡ step_count client past + 1
    → (n.added ≡ 0 → ⊥)
    → IsNumbered (record { kept = n.kept; moved = n.moved ++ (seq + n.added) ∷ []; added = n.added }) client
    (line.Step client seq done ∷ past)
moved_step n client seq done past is next some =
    let counted = is.counted in
    let more = own_count client seq done past in
    let longer = length-append n.moved ((seq + n.added) ∷ []) in
    record {
      counted = omega (arith, counted, more, longer, next);
      added_is = is.added_is;
      all_kept = λ zero. absurd (some zero);
      first = λ number within. other_number client seq number done past (λ same. omega (arith, same, within, counted, next))
          ∙ is.first number within;
      rest = λ place within. elim (cases_lt place (length n.moved)) [
        | inl early ↦ other_number client seq (n.kept + 1 + place) done past (λ same. omega (arith, same, early, counted, next))
            ∙ is.rest place early ∙ sym (get_or_append_left n.moved ((seq + n.added) ∷ []) 0 place early)
        | inr late ↦
            let last : place ≡ length n.moved + 0 = omega (arith, late, within, longer) in
            let this : n.kept + 1 + place ≡ seq = omega (arith, last, counted, next) in
            this_number client seq (n.kept + 1 + place) done past this
            ∙ omega (arith, this, is.added_is)
            ∙ sym (get_or-append-add n.moved ((seq + n.added) ∷ []) 0 0)
            ∙ ap (λ (p : ℕ). get_or (n.moved ++ (seq + n.added) ∷ []) p 0) (sym last)
      ];
    }

pub numbered_step : (n : Numbers) (client seq : ℕ) (done : Act) (past : List Line) → IsNumbered n client past
    → seq ≡ step_count client past + 1 → IsNumbered (stepped n seq) client (line.Step client seq done ∷ past)
numbered_step n client seq done past is next =
    elim (cases_Bool (eqb n.added 0)) [
      | inl zero ↦ subst (λ (b : Bool). IsNumbered (cond b (record { kept = seq; moved = n.moved; added = n.added })
          (record { kept = n.kept; moved = n.moved ++ (seq + n.added) ∷ []; added = n.added })) client
          (line.Step client seq done ∷ past)) (sym zero) (kept_step n client seq done past is next (eqb-true n.added 0 zero))
      | inr some ↦ subst (λ (b : Bool). IsNumbered (cond b (record { kept = seq; moved = n.moved; added = n.added })
          (record { kept = n.kept; moved = n.moved ++ (seq + n.added) ∷ []; added = n.added })) client
          (line.Step client seq done ∷ past)) (sym some) (moved_step n client seq done past is next (eqb-false n.added 0 some))
    ]

-- ---- a line that is none of the client's

numbered_other : (n : Numbers) (client : ℕ) (l : Line) (past : List Line) → IsNumbered n client past
    → step_count client (l ∷ past) ≡ step_count client past → added client (l ∷ past) ≡ added client past
    → ((number : ℕ) → new_number client number (l ∷ past) ≡ new_number client number past) → IsNumbered n client (l ∷ past)
numbered_other n client l past is steps adds numbers = record {
  counted = is.counted ∙ sym steps;
  added_is = is.added_is ∙ sym adds;
  all_kept = is.all_kept;
  first = λ number within. numbers number ∙ is.first number within;
  rest = λ place within. numbers (n.kept + 1 + place) ∙ is.rest place within;
}

-- a client's return
numbered_back : (n : Numbers) (client moment : ℕ) (past : List Line) → IsNumbered n client past
    → IsNumbered (with_added n (length (presence client past).names)) client (line.Back client moment ∷ past)
numbered_back n client moment past is =
    let steps = no_step client (line.Back client moment) past refl in
    let names = length (presence client past).names in
    let more : added client (line.Back client moment ∷ past) ≡ names + added client past =
    ap (λ (b : Bool). cond b names 0 + added client past) (eq-eqb client client refl) in
    record {
      counted = is.counted ∙ sym steps;
      added_is = ap (λ (n : ℕ). names + n) is.added_is ∙ sym more;
      all_kept = λ zero. is.all_kept (omega (arith, zero));
      first = is.first;
      rest = is.rest;
    }

-- ---- all clients

-- one client's are changed
all_with : (clients client : ℕ) (all : List Numbers) (next : Numbers) (l : Line) (past : List Line) → client < length all
    → IsNumbered next client (l ∷ past)
    → ((other : ℕ) → other ≢ client → other ≤ clients → IsNumbered (get_or all other no_numbers) other (l ∷ past))
    → AreNumbered clients (set all client next) (l ∷ past)
all_with clients client all next l past within here others other few =
    elim (cases_eq other client) [
      | inl is ↦ subst (λ (n : Numbers). IsNumbered n other (l ∷ past))
          (sym (ap (λ (c : ℕ). get_or (set all client next) c no_numbers) is ∙ get_or-set_same all client next no_numbers within))
          (subst (λ (c : ℕ). IsNumbered next c (l ∷ past)) (sym is) here)
      | inr isnt ↦ subst (λ (n : Numbers). IsNumbered n other (l ∷ past)) (sym (get_or-set_other all client other next no_numbers isnt))
          (others other isnt few)
    ]

pub all_stepped : (clients client seq : ℕ) (all : List Numbers) (done : Act) (past : List Line) → AreNumbered clients all past
    → client ≤ clients → client < length all → seq ≡ step_count client past + 1
    → AreNumbered clients (set all client (stepped (get_or all client no_numbers) seq)) (line.Step client seq done ∷ past)
all_stepped clients client seq all done past are few within next =
    all_with clients client all _ (line.Step client seq done) past within
    (numbered_step (get_or all client no_numbers) client seq done past (are client few) next)
    (λ other isnt within.
    let apart = ne_eqb client other (λ is. isnt (sym is)) in
    numbered_other (get_or all other no_numbers) other (line.Step client seq done) past (are other within)
    (one_step other client seq done past ∙ ap (λ (b : Bool). cond b 1 0 + step_count other past) apart ∙ omega arith) refl
    (λ number. ap (λ (b : Bool). cond (b && eqb seq number) (number + added other past) (new_number other number past)) apart))

pub all_back : (clients client moment : ℕ) (all : List Numbers) (past : List Line) → AreNumbered clients all past
    → client ≤ clients → client < length all
    → AreNumbered clients (set all client (with_added (get_or all client no_numbers) (length (presence client past).names)))
    (line.Back client moment ∷ past)
all_back clients client moment all past are few within =
    all_with clients client all _ (line.Back client moment) past within
    (numbered_back (get_or all client no_numbers) client moment past (are client few))
    (λ other isnt within.
    let apart = ne_eqb client other (λ is. isnt (sym is)) in
    numbered_other (get_or all other no_numbers) other (line.Back client moment) past (are other within)
    (no_step other (line.Back client moment) past refl)
    (ap (λ (b : Bool). cond b (length (presence client past).names) 0 + added other past) apart ∙ omega arith) (λ number. refl))

-- lines that change no numbers
abbrev pub IsQuiet : Line → Type 0
IsQuiet l = (client : ℕ) (past : List Line) → (of_client client l ≡ false) × (added client (l ∷ past) ≡ added client past)
    × ((number : ℕ) → new_number client number (l ∷ past) ≡ new_number client number past)

pub all_quiet : (clients : ℕ) (all : List Numbers) (l : Line) (past : List Line) → IsQuiet l → AreNumbered clients all past
    → AreNumbered clients all (l ∷ past)
all_quiet clients all l past quiet are client few =
    let q = quiet client past in
    numbered_other (get_or all client no_numbers) client l past (are client few) (no_step client l past q.0) q.1 q.2

-- ---- the number of a step that is delivered

pub number_of : (n : Numbers) (client number : ℕ) (past : List Line) → IsNumbered n client past
    → IsWithin 1 (step_count client past) number
    → cond (leb number n.kept) number (get_or n.moved (number - n.kept - 1) 0) ≡ new_number client number past
number_of n client number past is within =
    elim (cases_lt n.kept number) [
      | inl behind ↦
          let counted = is.counted in
          let place : number - n.kept - 1 < length n.moved = omega (arith, behind, counted, within.1) in
          let there : n.kept + 1 + (number - n.kept - 1) ≡ number = omega (arith, behind) in
          ap (λ (b : Bool). cond b number (get_or n.moved (number - n.kept - 1) 0)) (lt-leb number n.kept behind)
          ∙ sym (is.rest (number - n.kept - 1) place) ∙ ap (λ (m : ℕ). new_number client m past) there
      | inr early ↦
          ap (λ (b : Bool). cond b number (get_or n.moved (number - n.kept - 1) 0)) (le-leb number n.kept early)
          ∙ sym (is.first number early)
    ]
