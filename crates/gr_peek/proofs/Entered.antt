-- What enterings leave of an eye.
use Rattle.std.proofs.Common.{◌≡◌, ℕ, ◌≤◌, Bool, true, refl, sym, ap, subst, ◌∙◌, arith}
use mathlib.Core.List.{IsPrefix}
use Rattle.gr_peek.specs.Views.{Note, Watching}
use Rattle.gr_peek.specs.Entering.{HasEntered, Follows}
use Rattle.gr_peek.proofs.Prefixes.{prefix_trans}

abbrev pub eye_of : Bool → Note → Note → ℕ → Watching
eye_of shown known told denied =
    record { copy = known.copy; shown = shown; known = known.publications; told = told.publications; denied = denied }

-- the eye takes what it is shown, or what it is told
module _ (shown : Bool) (known told next one two : Note) (denied : ℕ) (copy : told.copy ≡ known.copy)
    (begins : IsPrefix known.publications told.publications) (same : next.copy ≡ told.copy)
    (longer : IsPrefix told.publications next.publications) (first : one ≡ next) (second : two ≡ next) where
  copy_is : one.copy ≡ known.copy
  copy_is = ap (λ n. n.copy) first ∙ (same ∙ copy)

  learnt : IsPrefix told.publications one.publications
  learnt = subst (λ (n : Note). IsPrefix told.publications n.publications) (sym first) longer

  knew : IsPrefix known.publications one.publications
  knew = prefix_trans known.publications told.publications one.publications begins learnt

  pub enters_eye : shown ≡ true → HasEntered (eye_of shown known told denied) (eye_of shown one two denied)
  enters_eye is = record {
    was_shown = is;
    copy_is = copy_is;
    shown_is = refl;
    knew = knew;
    learnt = learnt;
    told_is = ap (λ n. n.publications) (second ∙ sym first);
    denied_is = refl;
  }

  pub follows_eye : Follows (eye_of shown known told denied) (eye_of shown one two denied)
  follows_eye = record {
    copy_is = copy_is;
    shown_is = refl;
    knew = knew;
    learnt = subst (λ (n : Note). IsPrefix told.publications n.publications) (sym second) longer;
    never_falls = omega arith;
  }

pub follows_entered : (old new : Watching) → HasEntered old new → Follows old new
follows_entered old new entered = record {
  copy_is = entered.copy_is;
  shown_is = entered.shown_is;
  knew = entered.knew;
  learnt = subst (IsPrefix old.told) (sym entered.told_is) entered.learnt;
  never_falls = subst (λ (n : ℕ). old.denied ≤ n) (sym entered.denied_is) (omega arith);
}
