-- Steps while they are told apart, and taken out client by client.
use Rattle.std.proofs.Common.{◌≡◌, ◌≢◌, ℕ, zero, suc, ◌+◌, ◌-◌, ◌<◌, ◌≤◌, ◌==◌, Bool, true, false, Some, None}
use Rattle.std.proofs.Common.{List, [], ◌∷◌, ◌++◌, length, get_or, take, reverse, refl, sym, ap, ◌∙◌, subst, arith, inl, inr}
use Rattle.std.proofs.Common.{append-nil, if◌then◌else◌}
use Rattle.std.specs.List.{cons_option}
use Rattle.std.proofs.lemmas.List.{reverse-reverse, take_more}
use Rattle.std.proofs.lemmas.Bool.Decides.{nat_tests}
use Rattle.std.proofs.lemmas.List.Elements.{filter_map-append}
use mathlib.Core.Logic.{dite}
use native.Mathlib.Decide.{ℕ_discrete}
use Rattle.gr_script.specs.declared.line.Line.{Line}
use Rattle.gr_script.specs.declared.line.Line.TheVariants as line
use Rattle.gr_script.specs.declared.line.Step.{Step}
use Rattle.gr_script.specs.Rules.{Heading, IsScript, StandsAfter}
use Rattle.gr_script.specs.Steps.{step_of, steps_of}
use Rattle.gr_law.specs.Grids.{Among}
use Rattle.gr_law.proofs.Lists.{among_reverse}
use Rattle.gr_runner.specs.Stepping.{AreStepsOf, AreWith, HasPlace}
use Rattle.gr_runner.proofs.Ends.{at_front, at_last, one_longer}
use Rattle.gr_runner.proofs.Joiners.{stands_among}

-- ---- lists for all clients

pub none_none : (each : List (List Step)) → each ≡ [] → AreStepsOf [] 0 each
none_none each e = record { many = ap length e; own = λ k d l. absurd (omega (arith, l)) }

pub none_more : (n : ℕ) (each more : List (List Step)) (steps : List Step) → steps ≡ [] → AreStepsOf [] n each
    → more ≡ each ++ steps ∷ [] → AreStepsOf [] (n + 1) more
none_more n each more steps none are e = record {
  many = one_longer more each steps e ∙ ap (λ (m : ℕ). m + 1) are.many;
  own = λ k d l.
      let many = are.many in
      dite (ℕ_discrete k n)
      (λ (here : k ≡ n). at_last more each steps k d e (here ∙ sym are.many) ∙ none)
      (λ (before : k ≢ n). at_front more each steps k d e (omega (arith, l, before, many)) ∙ are.own k d (omega (arith, l, before)));
}

-- ---- one line more

no_step : (old new : List (List Step)) → new ≡ old → (k : ℕ) (d : List Step) → get_or new k d ≡ get_or old k d ++ []
no_step old new e k d = ap (λ (each : List (List Step)). get_or each k d) e ∙ sym (append-nil (get_or old k d))

-- what a client has with the line
with_line : (l : Line) (old new : List (List Step)) → AreWith l old new → (k : ℕ) (d : List Step)
    → get_or new k d ≡ get_or old k d ++ cons_option (step_of (suc k) l) []
with_line (line.Step client seq act) old new put k d = dite (ℕ_discrete (suc k) client) here elsewhere
  where
    step : Step
    step = record { seq = seq; act = act }

    given : Bool → List Step
    given own = get_or old k d ++ cons_option (if own then Some step else None) []

    here : suc k ≡ client → get_or new k d ≡ given (client == suc k)
    here e = (let own : (client == suc k) ≡ true = grind (arith, nat_tests) in put.own k d e ∙ ap given (sym own))

    elsewhere : suc k ≢ client → get_or new k d ≡ given (client == suc k)
    elsewhere ne =
        let own : (client == suc k) ≡ false = grind (arith, nat_tests) in
        put.others k d ne ∙ sym (append-nil (get_or old k d)) ∙ ap given (sym own)
with_line (line.Deliver to client seq) old new e k d = no_step old new e k d
with_line (line.Report member) old new e k d = no_step old new e k d
with_line (line.Hear by of number) old new e k d = no_step old new e k d
with_line (line.Sweep member moment) old new e k d = no_step old new e k d
with_line (line.Join member from) old new e k d = no_step old new e k d
with_line (line.Depart member) old new e k d = no_step old new e k d
with_line (line.Leave client moment) old new e k d = no_step old new e k d
with_line (line.Back client moment) old new e k d = no_step old new e k d

as_many : (l : Line) (old new : List (List Step)) → AreWith l old new → length new ≡ length old
as_many (line.Step client seq act) old new put = put.many
as_many (line.Deliver to client seq) old new e = ap length e
as_many (line.Report member) old new e = ap length e
as_many (line.Hear by of number) old new e = ap length e
as_many (line.Sweep member moment) old new e = ap length e
as_many (line.Join member from) old new e = ap length e
as_many (line.Depart member) old new e = ap length e
as_many (line.Leave client moment) old new e = ap length e
as_many (line.Back client moment) old new e = ap length e

pub steps_with : (lines : List Line) (i : ℕ) (l : Line) (clients : ℕ) (old new : List (List Step)) → i < length lines
    → l ≡ get_or lines i l → AreStepsOf (take i lines) clients old → AreWith l old new → AreStepsOf (take (i + 1) lines) clients new
steps_with lines i l clients old new lt is are with = record {
  many = as_many l old new with ∙ are.many;
  own = λ k d less.
      with_line l old new with k d
      ∙ ap (λ (steps : List Step). steps ++ cons_option (step_of (suc k) l) []) (are.own k d less)
      ∙ sym (filter_map-append (step_of (suc k)) (take i lines) (l ∷ []))
      ∙ ap (λ (x : Line). steps_of (suc k) (take i lines ++ x ∷ [])) is
      ∙ ap (steps_of (suc k)) (sym (take_more lines i l lt));
}

-- ---- the client of a line

-- where a line stands, its client is stated
has_place : (h : Heading) (past : List Line) (l : Line) → StandsAfter h past l → HasPlace l (length h.clients)
has_place h past (line.Step client seq act) stands = stands.0
has_place h past (line.Deliver to client seq) stands = tt
has_place h past (line.Report member) stands = tt
has_place h past (line.Hear by of number) stands = tt
has_place h past (line.Sweep member moment) stands = tt
has_place h past (line.Join member from) stands = tt
has_place h past (line.Depart member) stands = tt
has_place h past (line.Leave client moment) stands = tt
has_place h past (line.Back client moment) stands = tt

among_at : {E : Type 0} (xs : List E) (k : ℕ) (x : E) → k < length xs → Among (get_or xs k x) xs
among_at [] k x l = absurd (omega (arith, l))
among_at (y ∷ xs) zero x l = inl refl
among_at (y ∷ xs) (suc k) x l = inr (among_at xs k x (omega (arith, l)))

pub place_at : (h : Heading) (lines : List Line) (i : ℕ) (l : Line) (clients : ℕ) (each : List (List Step)) → IsScript h lines
    → i < length lines → l ≡ get_or lines i l → clients ≡ length h.clients → AreStepsOf (take i lines) clients each
    → HasPlace l (length each)
place_at h lines i l clients each script lt is all are =
    let among : Among l lines = subst (λ (x : Line). Among x lines) (sym is) (among_at lines i l lt) in
    let back = subst (Among l) (sym (reverse-reverse lines)) among in
    let stands = stands_among h (reverse lines) l script.lines_stand (among_reverse l (reverse lines) back) in
    subst (HasPlace l) (sym (are.many ∙ all)) (has_place h stands.0 l stands.1)

-- ---- taken out

-- What the last client has is its own, and that of the others is left.
pub last_client : (lines : List Line) (client : ℕ) (each less : List (List Step)) (steps : List Step) → 1 ≤ client
    → AreStepsOf lines client each → each ≡ less ++ steps ∷ [] → AreStepsOf lines (client - 1) less × (steps ≡ steps_of client lines)
last_client lines client each less steps some are e =
    let long = one_longer each less steps e in
    let many = are.many in
    let few : length less ≡ client - 1 = omega (arith, long, many) in (
      record {
        many = few;
        own = λ k d l. sym (at_front each less steps k d e (omega (arith, l, few))) ∙ are.own k d (omega (arith, l));
      },
      sym (at_last each less steps (client - 1) steps e (sym few)) ∙ are.own (client - 1) steps (omega (arith, some))
          ∙ ap (λ (n : ℕ). steps_of n lines) (omega (arith, some)),
    )
