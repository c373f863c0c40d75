-- Lists, item by item.
use Rattle.std.proofs.Common.{◌≡◌, ◌⊎◌, ℕ, zero, suc, ◌<◌, List, [], ◌∷◌, ◌++◌, length, get_or, take, Option, Some, inl, inr, ⊎_elim}
use Rattle.std.proofs.Common.{ap, ◌∙◌, arith}
use Rattle.std.specs.Prelude.{slice_get, IfSome, None}
use Rattle.std.proofs.lemmas.List.{take-append-le, take_all}
use Rattle.gr_law.specs.Grids.{Among}
use Rattle.gr_run_law.proofs.Lists.{none_isnt_some, same_in_some}

module _ {A : Type 0} where
  pub among_cut : (x : A) (xs ys : List A) → Among x (xs ++ ys) → Among x xs ⊎ Among x ys
  among_cut x [] ys a = inr a
  among_cut x (y ∷ xs) ys (inl is) = inl (inl is)
  among_cut x (y ∷ xs) ys (inr a) = ⊎_elim (λ b. inl (inr b)) (λ b. inr b) (among_cut x xs ys a)

  pub among_front : (x : A) (xs ys : List A) → Among x xs → Among x (xs ++ ys)
  among_front x [] ys a = absurd a
  among_front x (y ∷ xs) ys (inl is) = inl is
  among_front x (y ∷ xs) ys (inr a) = inr (among_front x xs ys a)

  pub among_behind : (x : A) (xs ys : List A) → Among x ys → Among x (xs ++ ys)
  among_behind x [] ys a = a
  among_behind x (y ∷ xs) ys a = inr (among_behind x xs ys a)

  -- the item at a place, which there is
  pub get_there : (xs : List A) (k : ℕ) (x d : A) → slice_get xs k ≡ Some x → get_or xs k d ≡ x
  get_there [] k x d e = absurd (none_isnt_some x e)
  get_there (y ∷ xs) zero x d e = same_in_some y x e
  get_there (y ∷ xs) (suc k) x d e = get_there xs k x d e

  -- one item more
  pub take_next : (xs : List A) (n : ℕ) (x : A) → slice_get xs n ≡ Some x → take (suc n) xs ≡ take n xs ++ x ∷ []
  take_next [] n x e = absurd (none_isnt_some x e)
  take_next (y ∷ xs) zero x e = ap (λ z. z ∷ []) (same_in_some y x e)
  take_next (y ∷ xs) (suc n) x e = ap (λ l. y ∷ l) (take_next xs n x e)

  pub get_below : (xs : List A) (n : ℕ) (x : A) → slice_get xs n ≡ Some x → n < length xs
  get_below [] n x e = absurd (none_isnt_some x e)
  get_below (y ∷ xs) zero x e = omega arith
  get_below (y ∷ xs) (suc n) x e = let k = get_below xs n x e in omega arith

  pub take_filled : (n : ℕ) (xs ys : List A) → length xs ≡ n → take n (xs ++ ys) ≡ xs
  take_filled n xs ys long = take-append-le n xs ys (omega arith) ∙ take_all n xs (omega arith)

  pub some_weaker : (o : Option A) (P Q : A → Type 0) → ((x : A) → P x → Q x) → IfSome o P → IfSome o Q
  some_weaker None P Q f p = tt
  some_weaker (Some x) P Q f p = f x p
