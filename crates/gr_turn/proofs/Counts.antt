-- Lemmas on lists, counts and totals.
use Rattle.std.proofs.Common.{◌≡◌, ◌≢◌, ℕ, zero, suc, ◌+◌, ◌-◌, ◌*◌, ◌<◌, ◌≤◌, Bool, true, false, List, [], ◌∷◌, ◌++◌, length, set, refl}
use Rattle.std.proofs.Common.{sym, ap, ◌∙◌, subst, arith, length-append, append_assoc, append-nil, eq-eqb, ne_eqb}
use Rattle.std.specs.Prelude.{◌==◌, cond, slice_get, Some, None}
use mathlib.Core.Option.{some, some-injective, some-ne-none}
use mathlib.Core.Logic.{dite}
use native.Mathlib.Decide.{ℕ_discrete}
use lib.ListN.{get_elem?}
use Rattle.std.specs.Int.Bits.{bit_or, or_block, or_zero_r}
use Rattle.std.proofs.Math.Dec.{leb}
use Rattle.std.proofs.lemmas.Bool.{leb-true, leb-false}
use Rattle.gr_turn.specs.Views.{times, total, count_from, longer, shorter}
use Rattle.gr_value.specs.Lists.{StartsWith}

some_of : {X : Type 0} (a b : X) → Some a ≡ Some b → a ≡ b
some_of a b e = cc

none_of : {X : Type 0} (x : X) → None ≡ Some x → ⊥
none_of x e = cc

pub total_set : {V : Type 0} (f : V → ℕ) (vs : List V) (i : ℕ) (v w : V) → get_elem? vs i ≡ some v
    → total f (set vs i w) + f v ≡ total f vs + f w
total_set f [] i v w e = absurd (some-ne-none v (sym e))
total_set f (x ∷ xs) zero v w e = let same : x ≡ v = some-injective x v e in let k : f x ≡ f v = ap f same in omega arith
total_set f (x ∷ xs) (suc i) v w e = let k : total f (set xs i w) + f v ≡ total f xs + f w = total_set f xs i v w e in omega arith

-- a change that keeps f of the view keeps the total
pub total_same : {V : Type 0} (f : V → ℕ) (vs : List V) (i : ℕ) (v w : V) → get_elem? vs i ≡ some v → f w ≡ f v
    → total f (set vs i w) ≡ total f vs
total_same f vs i v w e k = let t = total_set f vs i v w e in omega arith

pub total_snoc : {V : Type 0} (f : V → ℕ) (vs : List V) (w : V) → total f (vs ++ w ∷ []) ≡ total f vs + f w
total_snoc f [] w = omega arith
total_snoc f (x ∷ xs) w = let k : total f (xs ++ w ∷ []) ≡ total f xs + f w = total_snoc f xs w in omega arith

-- one view's part of the total
pub total_at : {V : Type 0} (f : V → ℕ) (vs : List V) (i : ℕ) (v : V) → get_elem? vs i ≡ some v → f v ≤ total f vs
total_at f [] i v e = absurd (some-ne-none v (sym e))
total_at f (x ∷ xs) zero v e = let k : f x ≡ f v = ap f (some-injective x v e) in omega arith
total_at f (x ∷ xs) (suc i) v e = let k : f v ≤ total f xs = total_at f xs i v e in omega arith

pub times-append : (p : ℕ) (xs ys : List ℕ) → times p (xs ++ ys) ≡ times p xs + times p ys
times-append p [] ys = omega arith
times-append p (x ∷ xs) ys = let k : times p (xs ++ ys) ≡ times p xs + times p ys = times-append p xs ys in omega arith

pub count_split : (a x y : ℕ) → count_from a (x + y) ≡ count_from a x ++ count_from (a + x) y
count_split a zero y = let e : zero + y ≡ y = omega arith in let f : a + zero ≡ a = omega arith in ap (λ (n : ℕ). count_from a n) e
    ∙ ap (λ (n : ℕ). count_from n y) (sym f)
count_split a (suc x) y =
    let e : suc x + y ≡ suc (x + y) = omega arith in
    let f : suc a + x ≡ a + suc x = omega arith in
    ap (λ (n : ℕ). count_from a n) e
    ∙ ap (λ (l : List ℕ). a ∷ l) (count_split (suc a) x y ∙ ap (λ (n : ℕ). count_from (suc a) x ++ count_from n y) f)

-- what stands among n numbers from a on is below a + n
pub count_below : (p a n : ℕ) → 0 < times p (count_from a n) → p < a + n
count_below p a zero h = absurd (omega arith)
count_below p a (suc n) h = dite (ℕ_discrete p a) (λ (e : p ≡ a). omega arith)
    (λ ne. let k : 0 < 0 + times p (count_from (suc a) n) = rw (ne_eqb p a ne) at h in
    let r : p < suc a + n = count_below p (suc a) n (omega arith) in omega arith)

pub count_above : (p a n : ℕ) → 0 < times p (count_from a n) → a ≤ p
count_above p a zero h = absurd (omega arith)
count_above p a (suc n) h = dite (ℕ_discrete p a) (λ (e : p ≡ a). omega arith)
    (λ ne. let k : 0 < 0 + times p (count_from (suc a) n) = rw (ne_eqb p a ne) at h in
    let r : suc a ≤ p = count_above p (suc a) n (omega arith) in omega arith)

pub count_has : (p a n : ℕ) → a ≤ p → p < a + n → 0 < times p (count_from a n)
count_has p a zero lo hi = absurd (omega arith)
count_has p a (suc n) lo hi = dite (ℕ_discrete p a) (λ (e : p ≡ a). rw (eq-eqb p a e) (omega arith))
    (λ ne. let r : 0 < times p (count_from (suc a) n) = count_has p (suc a) n (omega arith) (omega arith) in
    rw (ne_eqb p a ne) (omega arith))

pub even_or : (n : ℕ) → bit_or (n * 2 + 0) 1 ≡ n * 2 + 1
even_or n = or_block 1 n 0 0 1 (omega arith) (omega arith) ∙ ap (λ (k : ℕ). k * 2 + 1) (or_zero_r n)

pub odd_or : (n : ℕ) → bit_or (n * 2 + 1) 1 ≡ n * 2 + 1
odd_or n = or_block 1 n 0 1 1 (omega arith) (omega arith) ∙ ap (λ (k : ℕ). k * 2 + 1) (or_zero_r n)

pub starts_long : {E : Type 0} (ys xs : List E) → StartsWith ys xs → length xs ≤ length ys
starts_long ys xs s = let e : length ys ≡ length xs + length s.0 = ap length s.1 ∙ length-append xs s.0 in omega arith

pub starts_trans : {E : Type 0} (zs ys xs : List E) → StartsWith zs ys → StartsWith ys xs → StartsWith zs xs
starts_trans {E} zs ys xs s t = (t.0 ++ s.0, s.1 ∙ ap (λ (l : List E). l ++ s.0) t.1 ∙ append_assoc xs t.0 s.0)

pub starts_self : {E : Type 0} (xs : List E) → StartsWith xs xs
starts_self xs = ([], sym (append-nil xs))

-- the places from `opening` on below n', by way of n
pub places_split : (p opening n n' : ℕ) → opening ≤ n → n ≤ n'
    → times p (count_from opening (n - opening)) + times p (count_from n (n' - n)) ≡ times p (count_from opening (n' - opening))
places_split p opening n n' lo hi =
    let a : (n - opening) + (n' - n) ≡ n' - opening = omega arith in
    let b : opening + (n - opening) ≡ n = omega arith in
    sym (ap (λ (k : ℕ). times p (count_from opening k)) (sym a) ∙ ap (times p) (count_split opening (n - opening) (n' - n))
    ∙ times-append p _ _ ∙ ap (λ (k : ℕ). times p (count_from opening (n - opening)) + times p (count_from k (n' - n))) b)

-- what stands in either of two lists has a bound
pub below_both : (p n a k : ℕ) (made : List ℕ) → (0 < times p made → p < n) → a + k ≡ n → 0 < times p (made ++ count_from a k) → p < n
below_both p n a k made own e h = go (times p made) refl
  where
    go : (m : ℕ) → times p made ≡ m → p < n
    go (suc m) f = own (omega arith)
    go zero f = let g : times p (made ++ count_from a k) ≡ times p made + times p (count_from a k) = times-append p made
        (count_from a k) in let r : p < a + k = count_below p a k (omega arith) in omega arith

-- where f of each other view is 0
pub total_only : {V : Type 0} (f : V → ℕ) (vs : List V) (i : ℕ) (v : V) → get_elem? vs i ≡ some v
    → ((j : ℕ) (u : V) → j ≢ i → get_elem? vs j ≡ some u → f u ≡ 0) → total f vs ≡ f v
total_only f [] i v e rest = absurd (some-ne-none v (sym e))
total_only f (x ∷ xs) zero v e rest = let k : f x ≡ f v = ap f (some-injective x v e) in
    let z : total f xs ≡ 0 = total_none f xs (λ j u a. rest (suc j) u (λ q. omega arith) a) in omega arith
  where
    total_none : {V : Type 0} (f : V → ℕ) (xs : List V) → ((j : ℕ) (u : V) → get_elem? xs j ≡ some u → f u ≡ 0) → total f xs ≡ 0
    total_none f [] each = refl
    total_none f (x ∷ xs) each = let a : f x ≡ 0 = each 0 x refl in
        let b : total f xs ≡ 0 = total_none f xs (λ j u q. each (suc j) u q) in omega arith
total_only f (x ∷ xs) (suc i) v e rest =
    let z : f x ≡ 0 = rest 0 x (λ q. omega arith) refl in
    let k : total f xs ≡ f v = total_only f xs i v e (λ j u n a. rest (suc j) u (λ q. n (omega arith)) a) in
    omega arith

-- two views' part of the total
pub total_two : {V : Type 0} (f : V → ℕ) (vs : List V) (i j : ℕ) (v u : V) → i ≢ j → get_elem? vs i ≡ some v
    → get_elem? vs j ≡ some u → f v + f u ≤ total f vs
total_two f [] i j v u ne a b = absurd (some-ne-none v (sym a))
total_two f (x ∷ xs) zero zero v u ne a b = absurd (ne refl)
total_two f (x ∷ xs) zero (suc j) v u ne a b = let k : f x ≡ f v = ap f (some-injective x v a) in
    let r : f u ≤ total f xs = total_at f xs j u b in omega arith
total_two f (x ∷ xs) (suc i) zero v u ne a b = let k : f x ≡ f u = ap f (some-injective x u b) in
    let r : f v ≤ total f xs = total_at f xs i v a in omega arith
total_two f (x ∷ xs) (suc i) (suc j) v u ne a b = let r : f v + f u ≤ total f xs = total_two f xs i j v u (λ e. ne (ap suc e)) a b in
    omega arith

-- each number stands there once at most
pub count_once : (p a n : ℕ) → times p (count_from a n) ≤ 1
count_once p a zero = omega arith
count_once p a (suc n) = dite (ℕ_discrete p a)
    (λ (e : p ≡ a). go (times p (count_from (suc a) n)) refl e)
    (λ ne. let r : times p (count_from (suc a) n) ≤ 1 = count_once p (suc a) n in rw (ne_eqb p a ne) (omega arith))
  where
    go : (m : ℕ) → times p (count_from (suc a) n) ≡ m → p ≡ a → cond (p == a) 1 0 + times p (count_from (suc a) n) ≤ 1
    go zero e q = rw (eq-eqb p a q, e) (omega arith)
    go (suc m) e q = let r : p < suc a + n = count_below p (suc a) n (omega arith) in
        let l : suc a ≤ p = count_above p (suc a) n (omega arith) in absurd (omega arith)

-- of two beginnings of one list, the longer
pub longer_starts : {E : Type 0} (zs xs ys : List E) → StartsWith zs xs → StartsWith zs ys → StartsWith zs (longer xs ys)
longer_starts zs xs ys a b = elim (leb (length xs) (length ys)) as (λ t. StartsWith zs (cond t ys xs)) [ true ↦ b | false ↦ a ]

-- of two beginnings of one list, the shorter begins the longer
starts_short : {E : Type 0} (zs xs ys : List E) → StartsWith zs xs → StartsWith zs ys → length xs ≤ length ys → StartsWith ys xs
starts_short zs [] ys a b h = (ys, refl)
starts_short zs (x ∷ xs) [] a b h = absurd (omega arith)
starts_short [] (x ∷ xs) (y ∷ ys) a b h = absurd (cons_of x (xs ++ a.0) (sym a.1))
  where
    cons_of : {X : Type 0} (x : X) (xs : List X) → x ∷ xs ≡ [] → ⊥
    cons_of x xs e = cc
starts_short (z ∷ zs) (x ∷ xs) (y ∷ ys) a b h =
    let r = starts_short zs xs ys (a.0, tail_of _ _ _ _ a.1) (b.0, tail_of _ _ _ _ b.1) (omega arith) in
    (r.0, λ i. (sym (head_of _ _ _ _ b.1) ∙ head_of _ _ _ _ a.1) i ∷ r.1 i)
  where
    head_of : {X : Type 0} (x y : X) (xs ys : List X) → x ∷ xs ≡ y ∷ ys → x ≡ y
    head_of x y xs ys e = cc

    tail_of : {X : Type 0} (x y : X) (xs ys : List X) → x ∷ xs ≡ y ∷ ys → xs ≡ ys
    tail_of x y xs ys e = cc

pub longer_shorter : {E : Type 0} (zs xs ys : List E) → StartsWith zs xs → StartsWith zs ys → StartsWith (longer xs ys) (shorter xs ys)
longer_shorter zs xs ys a b = go (leb (length xs) (length ys)) refl
  where
    go : (t : Bool) → leb (length xs) (length ys) ≡ t → StartsWith (longer xs ys) (shorter xs ys)
    go true e = let k = leb-true _ _ e in rw e (starts_short zs xs ys a b k)
    go false e = let k = leb-false _ _ e in rw e (starts_short zs ys xs b a (omega arith))

-- what the longer begins with
pub longer_both : {E : Type 0} (xs ys : List E) → StartsWith (longer xs ys) (shorter xs ys)
    → StartsWith (longer xs ys) xs × StartsWith (longer xs ys) ys
longer_both xs ys = elim (leb (length xs) (length ys)) as (λ t. StartsWith (cond t ys xs) (cond t xs ys)
    → StartsWith (cond t ys xs) xs
    × StartsWith (cond t ys xs) ys) [ true ↦ (λ s. (s, starts_self ys)) | false ↦ (λ s. (starts_self xs, s)) ]

pub longer_length : {E : Type 0} (xs ys : List E) → (length xs ≤ length (longer xs ys)) × (length ys ≤ length (longer xs ys))
longer_length xs ys = go (leb (length xs) (length ys)) refl
  where
    go : (t : Bool) → leb (length xs) (length ys) ≡ t → (length xs ≤ length (longer xs ys)) × (length ys ≤ length (longer xs ys))
    go true e = let k = leb-true _ _ e in rw e (k, omega arith)
    go false e = let k = leb-false _ _ e in rw e (omega arith, omega arith)

pub count_first : (n : ℕ) (ns : List ℕ) → 0 < times n (n ∷ ns)
count_first n ns = rw (eq-eqb n n refl) (omega arith)

pub each_snoc : {X : Type 0} (P : ℕ → X → Type 0) (xs : List X) (x : X) → ((k : ℕ) (y : X) → slice_get xs k ≡ Some y → P k y)
    → P (length xs) x → (k : ℕ) (y : X) → slice_get (xs ++ x ∷ []) k ≡ Some y → P k y
each_snoc P [] x each last zero y e = subst (λ z. P 0 z) (some_of x y e) last
each_snoc P [] x each last (suc k) y e = absurd (none_of y e)
each_snoc P (z ∷ xs) x each last zero y e = each 0 y e
each_snoc P (z ∷ xs) x each last (suc k) y e = each_snoc (λ (j : ℕ). P (suc j)) xs x (λ j w q. each (suc j) w q) last k y e
