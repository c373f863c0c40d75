-- Lists whose items are numbered, and what stands at a place of a longer list.
use Rattle.std.proofs.Common.{zero, suc, ◌≡◌, ◌∙◌, ap, sym, subst, refl, ℕ, ◌+◌, ◌≤◌, ◌<◌, List, [], ◌∷◌, ◌++◌, length, get_or, set, arith}
use Rattle.std.specs.Prelude.{Some, slice_get}
use Rattle.gr_world.specs.Numbered.{numbers_from, PairsFrom}

-- what stood at a place stands there with one item more
pub kept_get : {A : Type 0} (xs : List A) (y x : A) (k : ℕ) → slice_get xs k ≡ Some x → slice_get (xs ++ y ∷ []) k ≡ Some x
kept_get [] y x k h = absurd cc
kept_get (z ∷ xs) y x zero h = h
kept_get (z ∷ xs) y x (suc k) h = kept_get xs y x k h

-- and that item stands behind all others
pub last_get : {A : Type 0} (xs : List A) (y : A) → slice_get (xs ++ y ∷ []) (length xs) ≡ Some y
last_get [] y = refl
last_get (x ∷ xs) y = last_get xs y

pub numbers_length : {A : Type 0} → (from n : ℕ) (f : ℕ → A) → length (numbers_from from n f) ≡ n
numbers_length from zero f = refl
numbers_length from (suc n) f = ap (λ k. suc k) (numbers_length (suc from) n f)

-- one number more
pub numbers_next : {A : Type 0} → (from n : ℕ) (f : ℕ → A) → numbers_from from (suc n) f ≡ numbers_from from n f ++ f (from + n) ∷ []
numbers_next from zero f = let e : from + 0 ≡ from = omega arith in ap (λ k. f k ∷ []) (sym e)
numbers_next from (suc n) f =
    let e : suc from + n ≡ from + suc n = omega arith in
    ap (λ xs. f from ∷ xs) (numbers_next (suc from) n f ∙ ap (λ k. numbers_from (suc from) n f ++ f k ∷ []) e)

pub numbers_more : {A : Type 0} → (from n : ℕ) (f : ℕ → A) (xs : List A) (x : A) → xs ≡ numbers_from from n f → x ≡ f (from + n)
    → xs ++ x ∷ [] ≡ numbers_from from (n + 1) f
numbers_more from n f xs x before is =
    let e : n + 1 ≡ suc n = omega arith in
    ap (λ ys. ys ++ x ∷ []) before ∙ ap (λ y. numbers_from from n f ++ y ∷ []) is ∙ sym (numbers_next from n f)
    ∙ ap (λ k. numbers_from from k f) (sym e)

pub numbers_get : {A : Type 0} → (from n i : ℕ) (f : ℕ → A) (d : A) → i < n → get_or (numbers_from from n f) i d ≡ f (from + i)
numbers_get from zero i f d less = absurd (omega (arith, less))
numbers_get from (suc n) zero f d less = let e : from + 0 ≡ from = omega arith in ap f (sym e)
numbers_get from (suc n) (suc i) f d less =
    let e : suc from + i ≡ from + suc i = omega arith in
    numbers_get (suc from) n i f d (omega (arith, less)) ∙ ap f e

pub numbers_same : {A : Type 0} → (from n : ℕ) (f g : ℕ → A) → ((k : ℕ) → from ≤ k → k < from + n → f k ≡ g k)
    → numbers_from from n f ≡ numbers_from from n g
numbers_same from zero f g same = refl
numbers_same from (suc n) f g same =
    ap (λ x. x ∷ numbers_from (suc from) n f) (same from (omega arith) (omega arith))
    ∙ ap (λ xs. g from ∷ xs) (numbers_same (suc from) n f g (λ k low high. same k (omega (arith, low)) (omega (arith, high))))

-- one item is set
pub numbers_set : {A : Type 0} → (from n i : ℕ) (f g : ℕ → A) → i < n
    → ((k : ℕ) → from ≤ k → k < from + n → (k ≡ from + i → ⊥) → f k ≡ g k)
    → set (numbers_from from n f) i (g (from + i)) ≡ numbers_from from n g
numbers_set from zero i f g less same = absurd (omega (arith, less))
numbers_set from (suc n) zero f g less same =
    let e : from + 0 ≡ from = omega arith in
    ap (λ k. g k ∷ numbers_from (suc from) n f) e
    ∙ ap (λ xs. g from ∷ xs) (numbers_same (suc from) n f g
    (λ k low high. same k (omega (arith, low)) (omega (arith, high)) (λ is. omega (arith, is, low))))
numbers_set from (suc n) (suc i) f g less same =
    let e : from + suc i ≡ suc from + i = omega arith in
    ap (λ x. x ∷ set (numbers_from (suc from) n f) i (g (from + suc i))) (same from (omega arith) (omega arith) (λ is. omega (arith, is)))
    ∙ ap (λ k. g from ∷ set (numbers_from (suc from) n f) i (g k)) e
    ∙ ap (λ xs. g from ∷ xs) (numbers_set (suc from) n i f g (omega (arith, less))
    (λ k low high other. same k (omega (arith, low)) (omega (arith, high)) (λ is. other (omega (arith, is)))))

pub pairs_more : {A B : Type 0} → (P : ℕ → A → B → Type 0) (from : ℕ) (xs : List A) (ys : List B) (x : A) (y : B)
    → PairsFrom P from xs ys → P (from + length ys) x y → PairsFrom P from (xs ++ x ∷ []) (ys ++ y ∷ [])
pairs_more P from [] [] x y pairs last = let e : from + 0 ≡ from = omega arith in (subst (λ k. P k x y) e last, tt)
pairs_more P from [] (b ∷ ys) x y pairs last = absurd pairs
pairs_more P from (a ∷ xs) [] x y pairs last = absurd pairs
pairs_more P from (a ∷ xs) (b ∷ ys) x y pairs last =
    let e : from + suc (length ys) ≡ suc from + length ys = omega arith in
    (pairs.0, pairs_more P (suc from) xs ys x y pairs.1 (subst (λ k. P k x y) e last))

pub pairs_length : {A B : Type 0} → (P : ℕ → A → B → Type 0) (from : ℕ) (xs : List A) (ys : List B) → PairsFrom P from xs ys
    → length xs ≡ length ys
pairs_length P from [] [] pairs = refl
pairs_length P from [] (b ∷ ys) pairs = absurd pairs
pairs_length P from (a ∷ xs) [] pairs = absurd pairs
pairs_length P from (a ∷ xs) (b ∷ ys) pairs = ap (λ k. suc k) (pairs_length P (suc from) xs ys pairs.1)
