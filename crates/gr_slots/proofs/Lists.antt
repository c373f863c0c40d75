-- A list after one of its places is set, and after it is grown.
use Rattle.std.proofs.Common.{◌≡◌, ◌∙◌, ap, sym, refl, ℕ, zero, suc, ◌<◌, ◌==◌, List, [], ◌∷◌, ◌++◌}
use Rattle.std.proofs.Common.{Bool, true, false, Option, Some, None, option_map, length, arith}
use Rattle.std.specs.Prelude.{cond}
use Rattle.std.specs.Option.{option_and_then}
use Rattle.std.specs.List.{slice_get, slice_set, slice_index_or}
use Rattle.std.proofs.lemmas.Bool.Decides.{nat_tests}
use Rattle.std.proofs.lemmas.Option.{slice_get_read}

not_first : (p : ℕ) → (suc p == 0) ≡ false
not_first p = grind (arith, nat_tests)

not_first_of : (p : ℕ) → (0 == suc p) ≡ false
not_first_of p = grind (arith, nat_tests)

both_later : (p i : ℕ) → (p == i) ≡ (suc p == suc i)
both_later p i = grind (arith, nat_tests)

pub is_same : (a b : ℕ) → a ≡ b → (a == b) ≡ true
is_same a b e = grind (arith, nat_tests)

pub same_of : (a b : ℕ) → (a == b) ≡ true → a ≡ b
same_of a b e = grind (arith, nat_tests)

pub not_same : (a b : ℕ) → (a ≡ b → ⊥) → (a == b) ≡ false
not_same a b never = at_test (a == b) refl
  where
    at_test : (t : Bool) → (a == b) ≡ t → t ≡ false
    at_test true e = absurd (never (same_of a b e))
    at_test false e = refl

module _ {X : Type 0} where
  same_none : (b : Bool) → ◌≡◌ {A = Option X} None (cond b None None)
  same_none true = refl
  same_none false = refl

  get-set : (xs : List X) (i : ℕ) (x : X) (p : ℕ) → i < length xs
      → slice_get (slice_set xs i x) p ≡ cond (p == i) (Some x) (slice_get xs p)
  get-set [] i x p within = absurd (omega arith)
  get-set (y ∷ ys) zero x zero within = refl
  get-set (y ∷ ys) zero x (suc p) within = ap (λ b. cond b (Some x) (slice_get ys p)) (sym (not_first p))
  get-set (y ∷ ys) (suc i) x zero within = ap (λ b. cond b (Some x) (Some y)) (sym (not_first_of i))
  get-set (y ∷ ys) (suc i) x (suc p) within =
      get-set ys i x p (omega arith) ∙ ap (λ b. cond b (Some x) (slice_get ys p)) (both_later p i)

  -- what is read of each, where the one that is set has what was there
  pub read-set : {A : Type 0} (f : X → A) (xs : List X) (i : ℕ) (was x : X) (p : ℕ) → i < length xs → was ≡ slice_index_or xs i was
      → f x ≡ f was → option_map f (slice_get (slice_set xs i x) p) ≡ option_map f (slice_get xs p)
  read-set {A} f xs i was x p within is same = ap (option_map f) (get-set xs i x p within) ∙ at_test (p == i) refl
    where
      at_test : (b : Bool) → (p == i) ≡ b → option_map f (cond b (Some x) (slice_get xs p)) ≡ option_map f (slice_get xs p)
      at_test true e = ap Some same ∙ sym (ap (option_map f) (ap (slice_get xs) (same_of p i e)
          ∙ slice_get_read xs (length xs) i was refl within is))
      at_test false e = refl

  -- the same of what each may have
  pub read-set-if : {A : Type 0} (f : X → Option A) (xs : List X) (i : ℕ) (was x : X) (p : ℕ) → i < length xs
      → was ≡ slice_index_or xs i was → f x ≡ f was
      → option_and_then f (slice_get (slice_set xs i x) p) ≡ option_and_then f (slice_get xs p)
  read-set-if {A} f xs i was x p within is same = ap (option_and_then f) (get-set xs i x p within) ∙ at_test (p == i) refl
    where
      at_test : (b : Bool) → (p == i) ≡ b → option_and_then f (cond b (Some x) (slice_get xs p)) ≡ option_and_then f (slice_get xs p)
      at_test true e = same ∙ sym (ap (option_and_then f) (ap (slice_get xs) (same_of p i e)
          ∙ slice_get_read xs (length xs) i was refl within is))
      at_test false e = refl

  -- and where it has another
  pub read-set-to : {A : Type 0} (f : X → A) (xs : List X) (i : ℕ) (x : X) (p : ℕ) → i < length xs
      → option_map f (slice_get (slice_set xs i x) p) ≡ cond (p == i) (Some (f x)) (option_map f (slice_get xs p))
  read-set-to {A} f xs i x p within = ap (option_map f) (get-set xs i x p within) ∙ at_test (p == i)
    where
      at_test : (b : Bool) → option_map f (cond b (Some x) (slice_get xs p)) ≡ cond b (Some (f x)) (option_map f (slice_get xs p))
      at_test true = refl
      at_test false = refl

  -- the same at any place
  pub get-set-any : (xs : List X) (i : ℕ) (x : X) (p : ℕ)
      → slice_get (slice_set xs i x) p ≡ cond (p == i) (option_map (λ (y : X). x) (slice_get xs p)) (slice_get xs p)
  get-set-any [] i x p = same_none (p == i)
  get-set-any (y ∷ ys) zero x zero = refl
  get-set-any (y ∷ ys) zero x (suc p) =
      ap (λ b. cond b (option_map (λ (y : X). x) (slice_get ys p)) (slice_get ys p)) (sym (not_first p))
  get-set-any (y ∷ ys) (suc i) x zero = ap (λ b. cond b (Some x) (Some y)) (sym (not_first_of i))
  get-set-any (y ∷ ys) (suc i) x (suc p) =
      get-set-any ys i x p
      ∙ ap (λ b. cond b (option_map (λ (y : X). x) (slice_get ys p)) (slice_get ys p)) (both_later p i)

  pub length-set : (xs : List X) (i : ℕ) (x : X) → length (slice_set xs i x) ≡ length xs
  length-set [] i x = refl
  length-set (y ∷ ys) zero x = refl
  length-set (y ∷ ys) (suc i) x = ap suc (length-set ys i x)

  pub get-push : (xs : List X) (x : X) (p : ℕ) → slice_get (xs ++ x ∷ []) p ≡ cond (p == length xs) (Some x) (slice_get xs p)
  get-push [] x zero = refl
  get-push [] x (suc p) = ap (λ b. cond b (Some x) None) (sym (not_first p))
  get-push (y ∷ ys) x zero = ap (λ b. cond b (Some x) (Some y)) (sym (not_first_of (length ys)))
  get-push (y ∷ ys) x (suc p) = get-push ys x p ∙ ap (λ b. cond b (Some x) (slice_get ys p)) (both_later p (length ys))
