-- That a text is matched as far as it can be from the front, and never tried again before the last `%`.
use Rattle.std.proofs.Common.{◌≡◌, ℕ, zero, suc, ◌+◌, ◌==◌, ◌||◌, ◌&&◌, List, [], ◌∷◌, Bool, true, false, drop, refl, sym, ap, ◌∙◌, subst}
use Rattle.std.proofs.Common.{drop-drop, arith}
use Rattle.std.specs.List.{list_any}
use Rattle.gr_oql.specs.Like.{ends, percent, stands_for, first_and_rest, is_like, has_end_like}
use Rattle.gr_oql.specs.Reader.Walk.{Follows, MeetsPercent}

same_when : (a b : Bool) → (a ≡ true → b ≡ true) → (b ≡ true → a ≡ true) → a ≡ b
same_when true b f g = sym (f refl)
same_when false true f g = g refl
same_when false false f g = refl

or_left : (a b : Bool) → a ≡ true → (a || b) ≡ true
or_left a b h = rw h refl

or_right : (a b : Bool) → b ≡ true → (a || b) ≡ true
or_right true b h = refl
or_right false b h = h

-- a text passes that is left behind some first characters
pub passes_at : (test : List ℕ → Bool) (k : ℕ) (text : List ℕ) → test (drop k text) ≡ true → list_any test (ends text) ≡ true
passes_at test zero [] h = or_left (test []) false h
passes_at test (suc k) [] h = or_left (test []) false h
passes_at test zero (c ∷ cs) h = or_left (test (c ∷ cs)) _ h
passes_at test (suc k) (c ∷ cs) h = or_right (test (c ∷ cs)) _ (passes_at test k cs h)

-- a text that passes, behind so many first characters
abbrev Found : (List ℕ → Bool) → List ℕ → Type 0
Found test text = (k : ℕ) × (test (drop k text) ≡ true)

or_false : (a : Bool) → (a || false) ≡ true → a ≡ true
or_false true h = refl
or_false false h = h

either : (test : List ℕ → Bool) (c : ℕ) (cs : List ℕ) (b : Bool) → test (c ∷ cs) ≡ b → (b || list_any test (ends cs)) ≡ true
    → (list_any test (ends cs) ≡ true → Found test cs) → Found test (c ∷ cs)
either test c cs true is h later = (zero, is)
either test c cs false is h later = (suc (later h).0, (later h).1)

pub passed_at : (test : List ℕ → Bool) (text : List ℕ) → list_any test (ends text) ≡ true → (k : ℕ) × (test (drop k text) ≡ true)
passed_at test [] h = (zero, or_false (test []) h)
passed_at test (c ∷ cs) h = either test c cs (test (c ∷ cs)) refl h (λ later. passed_at test cs later)

-- what an end of an end has, the text has
pub has_end_like-drop : (pattern text : List ℕ) (k : ℕ) → has_end_like pattern (drop k text) ≡ true → has_end_like pattern text ≡ true
has_end_like-drop pattern text k h =
    let found = passed_at (is_like pattern) (drop k text) h in
    passes_at (is_like pattern) (k + found.0) text (subst (λ left. is_like pattern left ≡ true) (drop-drop found.0 k text) found.1)

pub follows_start : (pattern text : List ℕ) → Follows pattern text pattern text
follows_start pattern text = record { same = refl; later = λ k h. h }

pub Follows-trans : (pattern text mid left wanted rest : List ℕ) → Follows pattern text mid left → Follows mid left wanted rest
    → Follows pattern text wanted rest
Follows-trans pattern text mid left wanted rest one two = record { same = one.same ∙ two.same; later = λ k h. two.later k (one.later k h) }

pub MeetsPercent-after : (pattern text mid left behind rest : List ℕ) → Follows pattern text mid left → MeetsPercent mid left behind rest
    → MeetsPercent pattern text behind rest
MeetsPercent-after pattern text mid left behind rest one two =
    record { same = one.same ∙ two.same; later = λ k h. two.later k (one.later k h) }

rest_passes : (p : ℕ) (test : List ℕ → Bool) (text : List ℕ) → first_and_rest p test text ≡ true → test (drop 1 text) ≡ true
rest_passes p test [] h = cc
rest_passes p test (c ∷ cs) h = second (stands_for p c) (test cs) h
  where
    second : (a b : Bool) → (a && b) ≡ true → b ≡ true
    second true b h = h
    second false b h = cc

one_more : (k c : ℕ) (cs : List ℕ) → drop 1 (drop k (c ∷ cs)) ≡ drop k cs
one_more k c cs = drop-drop 1 k (c ∷ cs) ∙ ap (λ n. drop n (c ∷ cs)) (omega arith) ∙ sym (drop-drop k 1 (c ∷ cs))

plain : (p : ℕ) (ps text : List ℕ) → (p == percent) ≡ false → is_like (p ∷ ps) text ≡ first_and_rest p (is_like ps) text
plain p ps text h = rw h refl

pub Follows-first : (p c : ℕ) (ps cs : List ℕ) → (p == percent) ≡ false → stands_for p c ≡ true → Follows (p ∷ ps) (c ∷ cs) ps cs
Follows-first p c ps cs other stands = record {
  same = plain p ps (c ∷ cs) other ∙ rw stands refl;
  later = λ k h. subst (λ left. is_like ps left ≡ true) (one_more k c cs)
      (rest_passes p (is_like ps) (drop k (c ∷ cs)) (sym (plain p ps (drop k (c ∷ cs)) other) ∙ h));
}

pub MeetsPercent-first : (ps text : List ℕ) → MeetsPercent (percent ∷ ps) text ps text
MeetsPercent-first ps text = record { same = refl; later = λ k h. h }

pub is_like-differs : (p c : ℕ) (ps cs : List ℕ) → (p == percent) ≡ false → stands_for p c ≡ false → is_like (p ∷ ps) (c ∷ cs) ≡ false
is_like-differs p c ps cs other differs = plain p ps (c ∷ cs) other ∙ rw differs refl

pub is_like-short : (p : ℕ) (ps : List ℕ) → (p == percent) ≡ false → is_like (p ∷ ps) [] ≡ false
is_like-short p ps other = plain p ps [] other

-- a `%` was met: only what stands behind it is left to be sought
pub has_end_like-open : (pattern text behind left : List ℕ) → MeetsPercent pattern text behind left
    → has_end_like pattern text ≡ has_end_like behind left
has_end_like-open pattern text behind left meets =
    same_when (has_end_like pattern text) (has_end_like behind left)
    (λ h. let found = passed_at (is_like pattern) text h in has_end_like-drop behind left found.0 (meets.later found.0 found.1))
    (λ h. passes_at (is_like pattern) 0 text (meets.same ∙ h))

pub has_end_like-whole : (pattern text : List ℕ) → is_like pattern text ≡ true → has_end_like pattern text ≡ true
has_end_like-whole pattern text h = passes_at (is_like pattern) 0 text h

pub has_end_like-next : (pattern cs : List ℕ) (c : ℕ) → is_like pattern (c ∷ cs) ≡ false
    → has_end_like pattern (c ∷ cs) ≡ has_end_like pattern cs
has_end_like-next pattern cs c h = rw h refl

pub has_end_like-none : (pattern : List ℕ) → is_like pattern [] ≡ false → has_end_like pattern [] ≡ false
has_end_like-none pattern h = rw h refl
