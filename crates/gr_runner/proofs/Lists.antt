-- How lists begin, end, turn and are numbered.
use Rattle.std.proofs.Common.{◌≡◌, ℕ, zero, suc, ◌+◌, ◌<◌, Bool, true, false, ◌&&◌, List, [], ◌∷◌, ◌++◌, length, map, Option, Some, None}
use Rattle.std.proofs.Common.{refl, sym, ap, ◌∙◌, subst, arith, inl, inr, reverse, append_assoc}
use Rattle.std.specs.Prelude.{slice_get}
use Rattle.std.specs.List.{AllByRecursion, cons_option, filter_map}
use Rattle.std.proofs.lemmas.List.{reverse-append}
use Rattle.gr_history.specs.declared.deed.Deed.{Deed}
use Rattle.gr_law.specs.Grids.{Among, Older}
use Rattle.gr_law.proofs.Made.{older_itself}
use Rattle.gr_value.specs.Lists.{StartsWith}
use Rattle.gr_world.specs.Numbered.{numbers_from}

module _ {E : Type 0} where
  pub starts_trans : (a b c : List E) → StartsWith a b → StartsWith b c → StartsWith a c
  starts_trans a b c one two = (two.0 ++ one.0, one.1 ∙ ap (λ (l : List E). l ++ one.0) two.1 ∙ append_assoc c two.0 one.0)

  pub all_among : (P : E → Type 0) (xs : List E) → AllByRecursion P xs → (x : E) → Among x xs → P x
  all_among P [] all x among = absurd among
  all_among P (first ∷ xs) all x (inl is) = subst P (sym is) all.0
  all_among P (first ∷ xs) all x (inr among) = all_among P xs all.1 x among

  pub all_weaker : (P Q : E → Type 0) → ((x : E) → P x → Q x) → (xs : List E) → AllByRecursion P xs → AllByRecursion Q xs
  all_weaker P Q weaker [] all = tt
  all_weaker P Q weaker (x ∷ xs) all = (weaker x all.0, all_weaker P Q weaker xs all.1)

  -- what holds of the item at each place holds of each
  pub all_places : (P : E → Type 0) (xs : List E) → ((k : ℕ) (x : E) → slice_get xs k ≡ Some x → P x) → AllByRecursion P xs
  all_places P [] each = tt
  all_places P (x ∷ xs) each = (each zero x refl, all_places P xs (λ k y get. each (suc k) y get))

pub and_true : (x y z : Bool) → (x && y && z) ≡ true → (x ≡ true) × (y ≡ true) × (z ≡ true)
and_true true true true e = (refl, refl, refl)
and_true true true false e = absurd (no e)
  where
    no : false ≡ true → ⊥
    no e = cc
and_true true false z e = absurd (no e)
  where
    no : false ≡ true → ⊥
    no e = cc
and_true false y z e = absurd (no e)
  where
    no : false ≡ true → ⊥
    no e = cc

-- ---- histories

older_behind : (more past : List Deed) → Older past (more ++ past)
older_behind [] past = older_itself past
older_behind (deed ∷ more) past = inr (older_behind more past)

-- A list that begins with these, turned round, has them as its past.
pub older_front : (list first : List Deed) → StartsWith list first → Older (reverse first) (reverse list)
older_front list first s =
    subst (λ (l : List Deed). Older (reverse first) l) (sym (ap reverse s.1 ∙ reverse-append first s.0))
    (older_behind (reverse s.0) (reverse first))

-- Items that are numbered on from a number.
pub numbered_on : {A : Type 0} (f : A → ℕ) (from n : ℕ) (xs : List A) → length xs ≡ n
    → ((k : ℕ) (x : A) → slice_get xs k ≡ Some x → f x ≡ from + k) → map f xs ≡ numbers_from from n (λ m. m)
numbered_on f from zero [] e each = refl
numbered_on f from zero (x ∷ xs) e each = absurd (omega (arith, e))
numbered_on f from (suc n) [] e each = absurd (omega (arith, e))
numbered_on f from (suc n) (x ∷ xs) e each =
    let first : f x ≡ from = (let z : from + 0 ≡ from = omega arith in each zero x refl ∙ z) in
    ap (λ (y : ℕ). y ∷ map f xs) first
    ∙ ap (λ (l : List ℕ). from ∷ l) (numbered_on f (suc from) n xs (omega (arith, e))
    (λ k y get. (let z : from + suc k ≡ suc from + k = omega arith in each (suc k) y get ∙ z)))

-- What f gives where it gives nothing of the first, and of the others what F gives of their numbers.
pub numbered_behind : {A B : Type 0} (f : A → Option B) (F : ℕ → B) (from m n : ℕ) (xs : List A) → length xs ≡ m + n
    → ((k : ℕ) (x : A) → k < m → slice_get xs k ≡ Some x → f x ≡ None)
    → ((k : ℕ) (x : A) → k < n → slice_get xs (m + k) ≡ Some x → f x ≡ Some (F (from + k))) → filter_map f xs ≡ numbers_from from n F
numbered_behind f F from zero zero [] e none some = refl
numbered_behind f F from zero zero (x ∷ xs) e none some = absurd (omega (arith, e))
numbered_behind f F from zero (suc n) [] e none some = absurd (omega (arith, e))
numbered_behind {B = B} f F from zero (suc n) (x ∷ xs) e none some =
    let first : f x ≡ Some (F from) =
    (let z : from + 0 ≡ from = omega arith in some zero x (omega arith) refl ∙ ap (λ (i : ℕ). Some (F i)) z) in
    ap (λ (o : Option B). cons_option o (filter_map f xs)) first
    ∙ ap (λ (l : List B). F from ∷ l) (numbered_behind f F (suc from) zero n xs (omega (arith, e)) (λ k y l g. absurd (omega (arith, l)))
    (λ k y l g. (let z : from + suc k ≡ suc from + k = omega arith in
    let a : zero + k ≡ k = omega arith in
    let b : zero + suc k ≡ suc k = omega arith in
    some (suc k) y (omega (arith, l)) (ap (slice_get (x ∷ xs)) b ∙ sym (ap (slice_get xs) a) ∙ g) ∙ ap (λ (i : ℕ). Some (F i)) z)))
numbered_behind f F from (suc m) n [] e none some = absurd (omega (arith, e))
numbered_behind {B = B} f F from (suc m) n (x ∷ xs) e none some =
    ap (λ (o : Option B). cons_option o (filter_map f xs)) (none zero x (omega arith) refl)
    ∙ numbered_behind f F from m n xs (omega (arith, e)) (λ k y l g. none (suc k) y (omega (arith, l)) g)
    (λ k y l g. (let z : suc m + k ≡ suc (m + k) = omega arith in some k y l (ap (slice_get (x ∷ xs)) z ∙ g)))
