-- Passes while they are met.
use Rattle.std.proofs.Common.{◌≡◌, ◌≢◌, ℕ, ◌+◌, ◌<◌, ◌≤◌, List, [], ◌∷◌, ◌++◌, length, get_or, refl, sym, ap, ◌∙◌, subst, arith}
use Rattle.std.proofs.lemmas.List.{get_or-set_same, get_or-set_other, length-set}
use mathlib.Core.Logic.{dite}
use native.Mathlib.Decide.{ℕ_discrete}
use Rattle.gr_member.specs.Passes.{House, IsPassOf, MeetsAll}
use Rattle.gr_member.specs.Seats.{Place}
use Rattle.gr_member.proofs.Passing.{pass_meets}
use Rattle.gr_host.specs.Houses.{ArePassesOf}
use Rattle.gr_runner.specs.Meeting.{MeetsAt, MeetsEach}
use Rattle.gr_runner.proofs.Ends.{at_front, at_last, one_longer}

-- what is at the place afterwards, and at the others
pub met_there : (at : ℕ) (desks : List (List Place)) (pass : List Place) (after : List (List Place)) (p : List Place)
    → MeetsAt at desks pass after → MeetsAll (get_or desks at p) pass (get_or after at p)
met_there at desks pass after p m =
    subst (MeetsAll (get_or desks at p) pass)
    (sym (ap (λ (z : List (List Place)). get_or z at p) m.now ∙ get_or-set_same desks at m.met p m.there)) (m.meets p)

pub not_there : (at : ℕ) (desks : List (List Place)) (pass : List Place) (after : List (List Place)) (k : ℕ) (p : List Place)
    → MeetsAt at desks pass after → k ≢ at → get_or after k p ≡ get_or desks k p
not_there at desks pass after k p m ne =
    ap (λ (z : List (List Place)). get_or z k p) m.now ∙ get_or-set_other desks at k m.met p ne

pub met_many : (at : ℕ) (desks : List (List Place)) (pass : List Place) (after : List (List Place)) → MeetsAt at desks pass after
    → length after ≡ length desks
met_many at desks pass after m = ap length m.now ∙ length-set desks at m.met

-- They are passes of the members still.
pub met_its : (houses : List House) (at : ℕ) (desks : List (List Place)) (pass : List Place) (after : List (List Place))
    → ArePassesOf houses desks → MeetsAt at desks pass after → ArePassesOf houses after
met_its houses at desks pass after its m = record {
  many = met_many at desks pass after m ∙ its.many;
  each = λ k h p l. dite (ℕ_discrete k at) (here k h p l) (other k h p l);
}
  where
    here : (k : ℕ) (h : House) (p : List Place) → k < length houses → k ≡ at → IsPassOf (get_or houses k h) (get_or after k p)
    here k h p l e =
        subst (λ (i : ℕ). IsPassOf (get_or houses k h) (get_or after i p)) (sym e)
        (pass_meets (get_or houses k h) (get_or desks at p) pass (get_or after at p)
        (subst (λ (i : ℕ). IsPassOf (get_or houses k h) (get_or desks i p)) e (its.each k h p l)) (met_there at desks pass after p m))

    other : (k : ℕ) (h : House) (p : List Place) → k < length houses → k ≢ at → IsPassOf (get_or houses k h) (get_or after k p)
    other k h p l ne =
        subst (IsPassOf (get_or houses k h)) (sym (not_there at desks pass after k p m ne)) (its.each k h p l)

-- These passes are left, the others were met.
pub record MetUpto (desks passes after left : List (List Place)) : Type 0 where
  pub many : length after ≡ length desks
  pub fewer : length left ≤ length desks
  pub front : (k : ℕ) (p : List Place) → k < length left → get_or left k p ≡ get_or passes k p
  pub met : (k : ℕ) (p q : List Place) → length left ≤ k → k < length desks
      → MeetsAll (get_or desks k p) (get_or passes k q) (get_or after k p)
  pub not_yet : (k : ℕ) (p : List Place) → k < length left → get_or after k p ≡ get_or desks k p

pub upto_none : (desks passes : List (List Place)) → length passes ≡ length desks → MetUpto desks passes desks passes
upto_none desks passes e = record {
  many = refl;
  fewer = omega (arith, e);
  front = λ k p l. refl;
  met = λ k p q low high. absurd (omega (arith, e, low, high));
  not_yet = λ k p l. refl;
}

pub upto_more : (desks passes now after left less : List (List Place)) (pass : List Place) → length passes ≡ length desks
    → MetUpto desks passes now left → left ≡ less ++ pass ∷ [] → MeetsAt (length less) now pass after → MetUpto desks passes after less
upto_more desks passes now after left less pass same u e m = record {
  many = met_many (length less) now pass after m ∙ u.many;
  fewer = let few = u.fewer in omega (arith, few, long);
  front = λ k p l. sym (at_front left less pass k p e l) ∙ u.front k p (omega (arith, l, long));
  met = λ k p q low high. dite (ℕ_discrete k (length less)) (here k p q high) (before k p q low high);
  not_yet = λ k p l.
      not_there (length less) now pass after k p m (λ is. absurd (omega (arith, l, is))) ∙ u.not_yet k p (omega (arith, l, long));
}
  where
    long : length left ≡ length less + 1
    long = one_longer left less pass e

    here : (k : ℕ) (p q : List Place) → k < length desks → k ≡ length less → MeetsAll (get_or desks k p) (get_or passes k q) (get_or after k p)
    here k p q high is =
        let there = met_there (length less) now pass after p m in
        let low : length less < length left = omega (arith, long) in
        let first : get_or now (length less) p ≡ get_or desks (length less) p = u.not_yet (length less) p low in
        let its : get_or passes (length less) q ≡ pass =
        sym (u.front (length less) q low) ∙ at_last left less pass (length less) q e refl in
        subst (λ (i : ℕ). MeetsAll (get_or desks i p) (get_or passes i q) (get_or after i p)) (sym is)
        (subst (λ (z : List Place). MeetsAll (get_or desks (length less) p) z (get_or after (length less) p)) (sym its)
        (subst (λ (z : List Place). MeetsAll z pass (get_or after (length less) p)) first there))

    before : (k : ℕ) (p q : List Place) → length less ≤ k → k < length desks → k ≢ length less
        → MeetsAll (get_or desks k p) (get_or passes k q) (get_or after k p)
    before k p q low high ne =
        subst (MeetsAll (get_or desks k p) (get_or passes k q)) (sym (not_there (length less) now pass after k p m ne))
        (u.met k p q (omega (arith, low, ne, long)) high)

pub upto_all : (desks passes after left : List (List Place)) → MetUpto desks passes after left → length left ≡ 0
    → MeetsEach desks passes after
upto_all desks passes after left u none = record { many = u.many; each = λ k p q l. u.met k p q (omega (arith, none)) l }

-- the pass that is met is of the member at its place
pub last_its : (houses : List House) (desks passes now left less : List (List Place)) (pass : List Place) → ArePassesOf houses passes
    → MetUpto desks passes now left → left ≡ less ++ pass ∷ [] → length desks ≡ length houses
    → (length less < length houses) × ((h : House) → IsPassOf (get_or houses (length less) h) pass)
last_its houses desks passes now left less pass its u e many =
    let long = one_longer left less pass e in
    let few = u.fewer in
    let low : length less < length left = omega (arith, long) in
    let there : length less < length houses = omega (arith, long, few, many) in
    let is : get_or passes (length less) pass ≡ pass =
    sym (u.front (length less) pass low) ∙ at_last left less pass (length less) pass e refl in
    (there, λ h. subst (IsPassOf (get_or houses (length less) h)) is (its.each (length less) h pass there))

-- passes that were met everywhere are of the members still
pub each_its : (houses : List House) (desks passes after : List (List Place)) → ArePassesOf houses desks → MeetsEach desks passes after
    → ArePassesOf houses after
each_its houses desks passes after its m = record {
  many = m.many ∙ its.many;
  each = λ k h p l.
      let many = its.many in
      pass_meets (get_or houses k h) (get_or desks k p) (get_or passes k p) (get_or after k p) (its.each k h p l)
      (m.each k p p (omega (arith, l, many)));
}
