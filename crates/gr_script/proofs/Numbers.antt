-- The steps of a client are numbered from 1, in order.
use Rattle.std.proofs.Common.{◌≡◌, ℕ, ◌+◌, List, [], ◌∷◌, ◌++◌, length, reverse, Bool, true, false, cond, eqb, Option, Some, None, refl}
use Rattle.std.proofs.Common.{sym, ap, ◌∙◌, subst, arith}
use Rattle.std.specs.Option.{is_some, option_to_list}
use Rattle.std.proofs.lemmas.Bool.{eqb-true}
use Rattle.std.proofs.lemmas.List.{length-append, append-nil, reverse-append, reverse-reverse}
use Rattle.std.proofs.lemmas.List.Elements.{filter_map-append}
use Rattle.std.proofs.lemmas.List.Sums.{sum_by-cons}
use Rattle.gr_script.specs.declared.line.Act.{Act}
use Rattle.gr_script.specs.declared.line.Line.{Line}
use Rattle.gr_script.specs.declared.line.Line.TheVariants as line
use Rattle.gr_script.specs.declared.line.Step.{Step}
use Rattle.gr_script.specs.Rules.{Heading, AllStand}
use Rattle.gr_script.specs.Steps.{step_of, steps_of, step_count, AreNumbered}
use Rattle.gr_script.proofs.Steps.{one_or_none}

-- one more step, with the next number
numbered_more : (number : ℕ) (steps : List Step) (step : Step) → AreNumbered number steps → step.seq ≡ number + length steps
    → AreNumbered number (steps ++ step ∷ [])
numbered_more number [] step all next = (omega arith, tt)
numbered_more number (first ∷ steps) step all next =
    let after : step.seq ≡ number + 1 + length steps = omega (arith, next) in
    (all.0, numbered_more (number + 1) steps step all.1 after)

-- the steps so far are numbered, and counted
abbrev Numbered : ℕ → List Line → List Step → Type 0
Numbered client past steps = AreNumbered 1 steps × (step_count client past ≡ length steps)

found_is : (client own seq : ℕ) (act : Act) (test : Bool) → eqb own client ≡ test
    → step_of client (line.Step own seq act) ≡ cond test (Some (record { seq = seq; act = act })) None
found_is client own seq act test is = ap (λ (b : Bool). cond {A = Option Step} b (Some (record { seq = seq; act = act })) None) is

counts : (client : ℕ) (l : Line) (past : List Line) (found : Option Step) → step_of client l ≡ found
    → step_count client (l ∷ past) ≡ cond (is_some found) 1 0 + step_count client past
counts client l past found is =
    sum_by-cons (λ line. cond (is_some (step_of client line)) 1 0) l past
    ∙ ap (λ (f : Option Step). cond (is_some f) 1 0 + step_count client past) is

steps_before : (client : ℕ) (l : Line) (past : List Line)
    → steps_of client (reverse (l ∷ past)) ≡ steps_of client (reverse past) ++ option_to_list (step_of client l)
steps_before client l past =
    ap (steps_of client) (reverse-append (l ∷ []) past) ∙ filter_map-append (step_of client) (reverse past) (l ∷ [])
    ∙ ap (λ (s : List Step). steps_of client (reverse past) ++ s) (one_or_none (step_of client l))

-- a line that is none of the client's steps
none_numbered : (client : ℕ) (l : Line) (past : List Line) (steps : List Step) → step_of client l ≡ None → Numbered client past steps
    → Numbered client (l ∷ past) (steps ++ option_to_list (step_of client l))
none_numbered client l past steps none so_far =
    let count : step_count client (l ∷ past) ≡ length steps = counts client l past None none ∙ omega (arith, so_far.1) in
    subst (λ (f : Option Step). Numbered client (l ∷ past) (steps ++ option_to_list f)) (sym none)
    (subst (Numbered client (l ∷ past)) (sym (append-nil steps)) (so_far.0, count))

more_numbered : (h : Heading) (client own seq : ℕ) (act : Act) (past : List Line) (steps : List Step) (test : Bool) → eqb own client ≡ test
    → seq ≡ step_count own past + 1 → Numbered client past steps
    → Numbered client (line.Step own seq act ∷ past) (steps ++ option_to_list (step_of client (line.Step own seq act)))
more_numbered h client own seq act past steps true is next so_far =
    let l : Line = line.Step own seq act in
    let step : Step = record { seq = seq; act = act } in
    let found = found_is client own seq act true is in
    let same : step_count own past ≡ step_count client past = ap (λ (c : ℕ). step_count c past) (eqb-true own client is) in
    let number : step.seq ≡ 1 + length steps = omega (arith, next, same, so_far.1) in
    let count : step_count client (l ∷ past) ≡ length (steps ++ step ∷ []) =
    counts client l past (Some step) found ∙ omega (arith, so_far.1, length-append steps (step ∷ []))
    in
    subst (λ (f : Option Step). Numbered client (l ∷ past) (steps ++ option_to_list f)) (sym found)
    (numbered_more 1 steps step so_far.0 number, count)
more_numbered h client own seq act past steps false is next so_far =
    none_numbered client (line.Step own seq act) past steps (found_is client own seq act false is) so_far

past_none : (client : ℕ) (l : Line) (past : List Line) → step_of client l ≡ None → Numbered client past (steps_of client (reverse past))
    → Numbered client (l ∷ past) (steps_of client (reverse (l ∷ past)))
past_none client l past none so_far =
    subst (Numbered client (l ∷ past)) (sym (steps_before client l past))
    (none_numbered client l past (steps_of client (reverse past)) none so_far)

numbered_past : (h : Heading) (client : ℕ) (past : List Line) → AllStand h past → Numbered client past (steps_of client (reverse past))
numbered_past h client [] all = (tt, refl)
numbered_past h client (line.Step own seq act ∷ past) all =
    subst (Numbered client (line.Step own seq act ∷ past)) (sym (steps_before client (line.Step own seq act) past))
    (more_numbered h client own seq act past (steps_of client (reverse past)) (eqb own client) refl all.0.1
    (numbered_past h client past all.1))
numbered_past h client (line.Deliver to of seq ∷ past) all =
    past_none client (line.Deliver to of seq) past refl (numbered_past h client past all.1)
numbered_past h client (line.Report member ∷ past) all =
    past_none client (line.Report member) past refl (numbered_past h client past all.1)
numbered_past h client (line.Hear by of number ∷ past) all =
    past_none client (line.Hear by of number) past refl (numbered_past h client past all.1)
numbered_past h client (line.Sweep member moment ∷ past) all =
    past_none client (line.Sweep member moment) past refl (numbered_past h client past all.1)
numbered_past h client (line.Join member from ∷ past) all =
    past_none client (line.Join member from) past refl (numbered_past h client past all.1)
numbered_past h client (line.Depart member ∷ past) all =
    past_none client (line.Depart member) past refl (numbered_past h client past all.1)
numbered_past h client (line.Leave own moment ∷ past) all =
    past_none client (line.Leave own moment) past refl (numbered_past h client past all.1)
numbered_past h client (line.Back own moment ∷ past) all =
    past_none client (line.Back own moment) past refl (numbered_past h client past all.1)

pub steps_numbered : (h : Heading) (client : ℕ) (lines : List Line) → AllStand h (reverse lines) → AreNumbered 1 (steps_of client lines)
steps_numbered h client lines all =
    subst (λ (ls : List Line). AreNumbered 1 (steps_of client ls)) (reverse-reverse lines) (numbered_past h client (reverse lines) all).0
