-- Who wins, by membership.
use Rattle.std.proofs.Common.{zero, suc, ◌≡◌, ℕ, ◌≤◌, ◌<◌, List, [], ◌∷◌, ◌++◌, true, false, refl, sym, subst, inl, inr, arith, bytes_eq}
use Rattle.std.specs.Prelude.{Option, Some, None, MatchOption}
use Rattle.std.specs.List.{AllByRecursion, Contains}
use Rattle.std.proofs.lemmas.Bool.Decides.{nat_tests}
use Rattle.std.proofs.lemmas.Slice.Eq.{bytes_eq-Decides}
use Rattle.gr_stamp.specs.declared.change.Change.{Change}
use Rattle.gr_stamp.specs.Version.{Version, beats}
use Rattle.gr_stamp.specs.Winner.{winner, IsUnbeaten, HasNoChange}
use Rattle.gr_stamp.proofs.Winning.{winner-found}
use Rattle.gr_history.specs.Calls.{ver_of}
use Rattle.gr_law.specs.Grids.{Among}
use Rattle.gr_law.proofs.Lists.{among_right}

-- no change of the key among these beats it
abbrev pub IsTop : List ℕ → List Change → Change → Type 0
IsTop key changes best = (change : Change) → Among change changes → bytes_eq change.key key ≡ true → beats change.stamp best.stamp ≡ false

pub record Best (key : List ℕ) (changes : List Change) (best : Change) : Type 0 where
  pub of_key : bytes_eq best.key key ≡ true
  pub among : Among best changes
  pub unbeaten : IsTop key changes best

abbrev pub HasNone : List ℕ → List Change → Type 0
HasNone key changes = (change : Change) → Among change changes → bytes_eq change.key key ≡ true → ⊥

abbrev pub IsBest : List ℕ → List Change → Option Change → Type 0
IsBest key changes None = HasNone key changes
IsBest key changes (Some best) = Best key changes best

pub all_among : {A : Type 0} → (P : A → Type 0) (x : A) (xs : List A) → AllByRecursion P xs → Among x xs → P x
all_among P x [] h a = absurd a
all_among P x (first ∷ rest) h (inl is) = subst P (sym is) h.0
all_among P x (first ∷ rest) h (inr a) = all_among P x rest h.1 a

pub among_contained : {A : Type 0} → (x : A) (xs : List A) → Contains xs x → Among x xs
among_contained x [] (k, inside, is) = absurd (omega (arith, inside))
among_contained x (first ∷ rest) (zero, inside, is) = inl (sym is)
among_contained x (first ∷ rest) (suc k, inside, is) = inr (among_contained x rest (k, omega (arith, inside), is))

best_from : (key : List ℕ) (changes : List Change) (best : Option Change)
    → MatchOption best (HasNoChange key changes) (IsUnbeaten key changes) → IsBest key changes best
best_from key changes None h = λ change a is. let e = all_among (λ c. bytes_eq c.key key ≡ false) change changes h a in cc
best_from key changes (Some best) h = record {
  of_key = h.of_key;
  among = among_contained best changes h.among;
  unbeaten = λ change a. all_among (λ c. bytes_eq c.key key ≡ true → beats c.stamp best.stamp ≡ false) change changes h.unbeaten a;
}

pub winner-best : (key : List ℕ) (changes : List Change) → IsBest key changes (winner key changes)
winner-best key changes = best_from key changes (winner key changes) (winner-found key changes)

-- what can't be beaten has at least the version
pub unbeaten-ver : (a b : Version) → beats a b ≡ false → a.ver ≤ b.ver
unbeaten-ver a b h = grind (arith, nat_tests)

pub ver-beats : (a b : Version) → b.ver < a.ver → beats a b ≡ true
ver-beats a b h = grind (arith, nat_tests)

pub beats-ver : (a b : Version) → beats a b ≡ true → b.ver ≤ a.ver
beats-ver a b h = grind (arith, nat_tests)

-- of two stamps that beat each other not, both are one
pub unbeaten-same : (a b : Version) → beats a b ≡ false → beats b a ≡ false → (a.ver ≡ b.ver) × (a.member ≡ b.member) × (a.rv ≡ b.rv)
unbeaten-same a b h k = (grind (arith, nat_tests), grind (arith, nat_tests), grind (arith, nat_tests))

ver_at : (key : List ℕ) (change : Change) (changes : List Change) (best : Option Change) → IsBest key changes best
    → Among change changes → bytes_eq change.key key ≡ true → change.stamp.ver ≤ ver_of best
ver_at key change changes None h a is = absurd (h change a is)
ver_at key change changes (Some best) h a is = unbeaten-ver change.stamp best.stamp (h.unbeaten change a is)

-- each change of the key has at most the winner's version
pub winner-ver : (key : List ℕ) (change : Change) (changes : List Change) → Among change changes → bytes_eq change.key key ≡ true
    → change.stamp.ver ≤ ver_of (winner key changes)
winner-ver key change changes a is = ver_at key change changes (winner key changes) (winner-best key changes) a is

grown_at : (key : List ℕ) (more changes : List Change) (best : Option Change) → IsBest key changes best
    → ((change : Change) → Among change changes → Among change (more ++ changes))
    → ver_of best ≤ ver_of (winner key (more ++ changes))
grown_at key more changes None h into = omega arith
grown_at key more changes (Some best) h into = winner-ver key best (more ++ changes) (into best h.among) h.of_key

-- more changes have no lesser winner
pub winner-grows : (key : List ℕ) (more changes : List Change) → ver_of (winner key changes) ≤ ver_of (winner key (more ++ changes))
winner-grows key more changes = grown_at key more changes (winner key changes) (winner-best key changes) (λ change a. into change a)
  where
    into : (change : Change) → Among change changes → Among change (more ++ changes)
    into change a = among_right change more changes a

pub bytes_eq-itself : (key : List ℕ) → bytes_eq key key ≡ true
bytes_eq-itself key = (bytes_eq-Decides key key).1 refl
