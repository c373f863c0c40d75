-- What stands at places of lists that go together.
use Rattle.std.proofs.Common.{◌≡◌, ◌⊎◌, ℕ, zero, suc, ◌+◌, ◌<◌, ◌≤◌, true, false, leb, List, [], ◌∷◌, ◌++◌, length, map, Option, Some}
use Rattle.std.proofs.Common.{refl, sym, ap, ◌∙◌, arith, inl, inr}
use Rattle.std.specs.Prelude.{slice_get}
use Rattle.std.specs.List.{cons_option, filter_map}
use Rattle.std.proofs.lemmas.Bool.Decides.{leb_tells}
use Rattle.gr_law.specs.Grids.{Among}
use Rattle.gr_run_law.proofs.Lists.{none_isnt_some, same_in_some}

module _ {A : Type 0} where
  pub record Found (xs : List A) (k : ℕ) : Type 0 where
    pub one : A
    pub there : slice_get xs k ≡ Some one

  pub behind : (xs ys : List A) (k : ℕ) (y : A) → slice_get ys k ≡ Some y → slice_get (xs ++ ys) (length xs + k) ≡ Some y
  behind [] ys k y e = let z : zero + k ≡ k = omega arith in ap (slice_get ys) z ∙ e
  behind (x ∷ xs) ys k y e =
      let z : suc (length xs) + k ≡ suc (length xs + k) = omega arith in ap (slice_get (x ∷ (xs ++ ys))) z ∙ behind xs ys k y e

  pub get_among : (xs : List A) (k : ℕ) (x : A) → slice_get xs k ≡ Some x → Among x xs
  get_among [] k x e = absurd (none_isnt_some x e)
  get_among (y ∷ xs) zero x e = inl (sym (same_in_some y x e))
  get_among (y ∷ xs) (suc k) x e = inr (get_among xs k x e)

  -- a function of numbers that has, below n, what there is of each
  pub choose : (R : ℕ → A → Type 0) (n : ℕ) → ((k : ℕ) → k < n → (a : A) × R k a) → A → (f : ℕ → A) × ((k : ℕ) → k < n → R k (f k))
  choose R n each other = (λ k. pick k (leb_tells (suc k) n), λ k less. at k less (leb_tells (suc k) n))
    where
      pick : (k : ℕ) → ((leb (suc k) n ≡ true) × (suc k ≤ n)) ⊎ ((leb (suc k) n ≡ false) × (n < suc k)) → A
      pick k (inl t) = (each k t.1).0
      pick k (inr t) = other

      at : (k : ℕ) → k < n → (t : ((leb (suc k) n ≡ true) × (suc k ≤ n)) ⊎ ((leb (suc k) n ≡ false) × (n < suc k))) → R k (pick k t)
      at k less (inl t) = (each k t.1).1
      at k less (inr t) = let more = t.1 in absurd (omega (arith, less, more))

module _ {A B C : Type 0} where
  -- Where f of the one list is g of the other, there is an item of the other at each place, of which it holds.
  pub same_there : (f : A → C) (g : B → C) (xs : List A) (ys : List B) (k : ℕ) (x : A) → map f xs ≡ map g ys → slice_get xs k ≡ Some x
      → (y : B) × (slice_get ys k ≡ Some y) × (f x ≡ g y)
  same_there f g [] ys k x e there = absurd (none_isnt_some x there)
  same_there f g (a ∷ xs) [] k x e there = absurd (no e)
    where
      no : f a ∷ map f xs ≡ [] → ⊥
      no e = cc
  same_there f g (a ∷ xs) (b ∷ ys) zero x e there = (b, refl, ap f (sym (same_in_some a x there)) ∙ heads e)
    where
      heads : f a ∷ map f xs ≡ g b ∷ map g ys → f a ≡ g b
      heads e = cc
  same_there f g (a ∷ xs) (b ∷ ys) (suc k) x e there = same_there f g xs ys k x (tails e) there
    where
      tails : f a ∷ map f xs ≡ g b ∷ map g ys → map f xs ≡ map g ys
      tails e = cc

module _ {A B : Type 0} where
  -- what f gives where it gives something of each of the first n, and nothing of the others
  pub filter_first : (f : A → Option B) (n k : ℕ) (xs : List A) (y : B)
      → ((i : ℕ) (x : A) → i < n → slice_get xs i ≡ Some x → (b : B) × (f x ≡ Some b)) → k < n
      → (x : A) → slice_get xs k ≡ Some x → f x ≡ Some y → slice_get (filter_map f xs) k ≡ Some y
  filter_first f n k [] y each less x there is = absurd (none_isnt_some x there)
  filter_first f zero k (a ∷ xs) y each less x there is = absurd (omega (arith, less))
  filter_first f (suc n) zero (a ∷ xs) y each less x there is =
      ap (λ (o : Option B). slice_get (cons_option o (filter_map f xs)) zero) (ap f (same_in_some a x there) ∙ is)
  filter_first f (suc n) (suc k) (a ∷ xs) y each less x there is =
      let first = each zero a (omega arith) refl in
      ap (λ (o : Option B). slice_get (cons_option o (filter_map f xs)) (suc k)) first.1
      ∙ filter_first f n k xs y (λ i z l e. each (suc i) z (omega (arith, l)) e) (omega (arith, less)) x there is
