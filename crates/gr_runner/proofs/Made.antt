-- Members as they are made, and as they are taken apart.
use Rattle.std.proofs.Common.{◌≡◌, ℕ, suc, ◌+◌, ◌<◌, ◌≤◌, Bool, List, [], ◌∷◌, ◌++◌, length, get_or}
use Rattle.std.proofs.Common.{refl, sym, ap, ◌∙◌, subst, arith, length-append}
use Rattle.std.proofs.lemmas.List.{get_or_push, get_or_append_left}
use mathlib.Core.Logic.{dite}
use native.Mathlib.Decide.{ℕ_discrete}
use Rattle.gr_script.specs.Rules.{Heading}
use Rattle.gr_member.specs.declared.plan.Plan.{Plan}
use Rattle.gr_member.specs.Seats.{Place}
use Rattle.gr_member.specs.Passes.{House, IsPassOf}
use Rattle.gr_member.specs.Fresh.{AreShown}
use Rattle.gr_runner.specs.Makings.{AreAt, AreEachAt, AreMade, AreOf, AreAllShown, IsMade, passes_at, plan_of}

-- what holds of each pair of two lists
abbrev EachPair : {A B : Type 0} → (ℕ → A → B → Type 0) → List A → List B → Type 0
EachPair {A} {B} R xs ys = (k : ℕ) (a : A) (b : B) → k < length xs → R k (get_or xs k a) (get_or ys k b)

module _ {A B : Type 0} (R : ℕ → A → B → Type 0) where
  -- one pair more
  pair_more : (xs : List A) (ys : List B) (x : A) (y : B) → length ys ≡ length xs → EachPair R xs ys → R (length xs) x y
      → EachPair R (xs ++ x ∷ []) (ys ++ y ∷ [])
  pair_more xs ys x y many each last k a b less =
      let long : length (xs ++ x ∷ []) ≡ length xs + 1 = length-append xs (x ∷ []) in
      dite (ℕ_discrete k (length xs))
      (λ (e : k ≡ length xs).
      subst (λ (v : B). R k (get_or (xs ++ x ∷ []) k a) v) (sym (get_or_push ys y b k (many ∙ sym e)))
      (subst (λ (v : A). R k v y) (sym (get_or_push xs x a k (sym e))) (subst (λ (i : ℕ). R i x y) (sym e) last)))
      (λ (n : k ≡ length xs → ⊥).
      let here : k < length xs = omega arith in
      subst (λ (v : B). R k (get_or (xs ++ x ∷ []) k a) v) (sym (get_or_append_left ys (y ∷ []) b k (omega arith)))
      (subst (λ (v : A). R k v (get_or ys k b)) (sym (get_or_append_left xs (x ∷ []) a k here)) (each k a b here)))

  -- all but the last, and the last
  pair_last : (xs : List A) (ys : List B) (x : A) (y : B) → length ys ≡ length xs → EachPair R (xs ++ x ∷ []) (ys ++ y ∷ [])
      → EachPair R xs ys × R (length xs) x y
  pair_last xs ys x y many each =
      let long : length (xs ++ x ∷ []) ≡ length xs + 1 = length-append xs (x ∷ []) in (
        λ k a b less.
            subst (λ (v : B). R k (get_or xs k a) v) (get_or_append_left ys (y ∷ []) b k (omega arith))
            (subst (λ (v : A). R k v (get_or (ys ++ y ∷ []) k b)) (get_or_append_left xs (x ∷ []) a k less) (each k a b (omega arith))),
        subst (λ (v : B). R (length xs) x v) (get_or_push ys y y (length xs) many)
            (subst (λ (v : A). R (length xs) v (get_or (ys ++ y ∷ []) (length xs) y)) (get_or_push xs x x (length xs) refl)
            (each (length xs) x y (omega arith))),
      )

-- ---- making

pub made_none : (h : Heading) → AreMade h 0 [] []
made_none h = record { many = refl; dealt = refl; each = λ k house passes less. absurd (omega arith) }

-- one member more
pub made_more : (h : Heading) (n : ℕ) (houses more : List House) (made deal : List (List (List Place))) (house : House)
    (passes : List (List Place))
    → AreMade h n houses made → IsMade (plan_of h (n + 1)) (passes_at h (n + 1)) house passes → more ≡ houses ++ house ∷ []
    → deal ≡ made ++ passes ∷ [] → AreMade h (n + 1) more deal
made_more h n houses more made deal house passes are one is dealt =
    let many = are.many in
    let same = are.dealt in
    record {
      many = ap length is ∙ length-append houses (house ∷ []) ∙ ap (λ (m : ℕ). m + 1) are.many;
      dealt = ap length dealt ∙ length-append made (passes ∷ []) ∙ ap (λ (m : ℕ). m + 1) are.dealt;
      each = λ k x y less.
          subst (λ (l : List House). IsMade (plan_of h (suc k)) (passes_at h (suc k)) (get_or l k x) (get_or deal k y)) (sym is)
          (subst (λ (l : List (List (List Place))).
          IsMade (plan_of h (suc k)) (passes_at h (suc k)) (get_or (houses ++ house ∷ []) k x) (get_or l k y)) (sym dealt)
          (pair_more (λ i. IsMade (plan_of h (suc i)) (passes_at h (suc i))) houses made house passes (are.dealt ∙ sym are.many)
          (λ i a b l. are.each i a b (omega arith))
          (subst (λ (i : ℕ). IsMade (plan_of h i) (passes_at h i) house passes) (omega arith) one) k x y
          (let long : length (houses ++ house ∷ []) ≡ length houses + 1 = length-append houses (house ∷ []) in omega arith)));
    }

pub shown_none : (h : Heading) (shown : Bool) → AreAllShown h shown 0 []
shown_none h shown k passes less = absurd (omega arith)

-- the passes of one member more
pub shown_more : (h : Heading) (shown : Bool) (n : ℕ) (made deal : List (List (List Place))) (passes : List (List Place))
    → length made ≡ n → AreAllShown h shown n made → AreShown shown (passes_at h (n + 1)) passes → deal ≡ made ++ passes ∷ []
    → AreAllShown h shown (n + 1) deal
shown_more h shown n made deal passes many are one dealt k x less =
    subst (λ (l : List (List (List Place))). AreShown shown (passes_at h (suc k)) (get_or l k x)) (sym dealt)
    (dite (ℕ_discrete k n)
    (λ (e : k ≡ n). subst (AreShown shown (passes_at h (suc k))) (sym (get_or_push made passes x k (many ∙ sym e)))
    (subst (λ (i : ℕ). AreShown shown (passes_at h i) passes) (omega arith) one))
    (λ (d : k ≡ n → ⊥).
    let here : k < n = omega arith in
    subst (AreShown shown (passes_at h (suc k)))
    (sym (get_or_append_left made (passes ∷ []) x k (subst (λ (i : ℕ). k < i) (sym many) here))) (are k x here)))

-- ---- taking apart

at_of : (plan : Plan) (passes : ℕ) (house : House) (made : List (List Place)) → 1 ≤ passes → IsMade plan passes house made → AreAt house made
at_of plan passes house made some m =
    let many = m.many in
    record { some = omega arith; each = λ k p less. (m.fresh k p (omega arith)).its }

pub each_at : (h : Heading) (n : ℕ) (houses : List House) (made : List (List (List Place))) → AreMade h n houses made
    → AreEachAt houses made
each_at h n houses made are =
    let many = are.many in
    record {
      many = are.dealt ∙ sym are.many;
      each = λ k x y less.
          at_of (plan_of h (suc k)) (passes_at h (suc k)) (get_or houses k x) (get_or made k y) (omega arith) (are.each k x y (omega arith));
    }

-- the last member and its passes, and the others
pub each_last : (houses fewer : List House) (made less : List (List (List Place))) (house : House) (passes : List (List Place))
    → AreEachAt houses made → houses ≡ fewer ++ house ∷ [] → made ≡ less ++ passes ∷ [] → AreEachAt fewer less × AreAt house passes
each_last houses fewer made less house passes are is dealt =
    let a : length houses ≡ length fewer + 1 = ap length is ∙ length-append fewer (house ∷ []) in
    let b : length made ≡ length less + 1 = ap length dealt ∙ length-append less (passes ∷ []) in
    let c = are.many in
    let many : length less ≡ length fewer = omega arith in
    let split = pair_last (λ i. AreAt) fewer less house passes many (λ k x y below.
    subst (λ (l : List House). AreAt (get_or l k x) (get_or (less ++ passes ∷ []) k y)) is
    (subst (λ (l : List (List (List Place))). AreAt (get_or houses k x) (get_or l k y)) dealt
    (are.each k x y (subst (λ (l : List House). k < length l) (sym is) below)))) in (
      record { many = many; each = split.0 },
      split.1,
    )

-- the last pass, and the others
pub of_last : (house : House) (passes fewer : List (List Place)) (p : List Place) → AreOf house passes → passes ≡ fewer ++ p ∷ []
    → AreOf house fewer × IsPassOf house p
of_last house passes fewer p each is =
    let long : length passes ≡ length fewer + 1 = ap length is ∙ length-append fewer (p ∷ []) in (
      λ k x less.
          subst (IsPassOf house) (ap (λ (l : List (List Place)). get_or l k x) is ∙ get_or_append_left fewer (p ∷ []) x k less)
          (each k x (omega arith)),
      subst (IsPassOf house) (ap (λ (l : List (List Place)). get_or l (length fewer) p) is ∙ get_or_push fewer p p (length fewer) refl)
          (each (length fewer) p (omega arith)),
    )
