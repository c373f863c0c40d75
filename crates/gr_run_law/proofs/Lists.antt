-- Lists, filters, and what stands where in a history.
use Rattle.std.proofs.Common.{◌≡◌, ℕ, zero, suc, ◌+◌, ◌<◌, ◌≤◌, ◌⊎◌, ◌==◌, Bool, true, false, List, [], ◌∷◌, ◌++◌, length, map, Option}
use Rattle.std.proofs.Common.{Some, None}
use Rattle.std.proofs.Common.{refl, sym, ap, ◌∙◌, subst, arith, inl, inr, reverse, filter, flat_map, if◌then◌else◌}
use Rattle.std.specs.Prelude.{slice_get, cond, count_by}
use Rattle.std.proofs.lemmas.List.Sums.{sum_by-cons, sum_by-append}
use Rattle.std.specs.List.{filter_map, cons_option, AllByRecursion}
use Rattle.std.proofs.lemmas.Grind.{reverse_onto}
use Rattle.std.proofs.lemmas.List.Elements.{filter_map-append}
use Rattle.std.proofs.lemmas.List.{length-reverse}
use Rattle.std.proofs.lemmas.Bool.Decides.{nat_tests}
use Rattle.gr_history.specs.declared.deed.Deed.{Deed}
use Rattle.gr_law.specs.Grids.{Among, Older}

pub true_false : true ≡ false → ⊥
true_false e = cc

pub none_isnt_some : {X : Type 0} (x : X) → None ≡ Some x → ⊥
none_isnt_some x e = cc

pub same_in_some : {X : Type 0} (x y : X) → Some x ≡ Some y → x ≡ y
same_in_some x y e = cc

pub no_item : {X : Type 0} (x : X) (xs : List X) → x ∷ xs ≡ [] → ⊥
no_item x xs e = cc

pub same_number : (a : ℕ) → (a == a) ≡ true
same_number a = grind (arith, nat_tests)

module _ {E : Type 0} where
  pub get_front : (xs ys : List E) (p : ℕ) (d : E) → slice_get xs p ≡ Some d → slice_get (xs ++ ys) p ≡ Some d
  get_front [] ys p d e = absurd (none_isnt_some d e)
  get_front (x ∷ xs) ys zero d e = e
  get_front (x ∷ xs) ys (suc p) d e = get_front xs ys p d e

  pub get_last : (xs : List E) (d : E) → slice_get (xs ++ d ∷ []) (length xs) ≡ Some d
  get_last [] d = refl
  get_last (x ∷ xs) d = get_last xs d

  pub all_at : (P : E → Type 0) (xs : List E) → AllByRecursion P xs → (k : ℕ) (x : E) → slice_get xs k ≡ Some x → P x
  all_at P [] all k x e = absurd (none_isnt_some x e)
  all_at P (y ∷ xs) all zero x e = subst P (same_in_some y x e) all.0
  all_at P (y ∷ xs) all (suc k) x e = all_at P xs all.1 k x e

  pub all_append : (P : E → Type 0) (xs ys : List E) → AllByRecursion P xs → AllByRecursion P ys → AllByRecursion P (xs ++ ys)
  all_append P [] ys a b = b
  all_append P (x ∷ xs) ys a b = (a.0, all_append P xs ys a.1 b)

  pub all_flat : {W : Type 0} (P : E → Type 0) (g : W → List E) → ((w : W) → AllByRecursion P (g w)) → (ws : List W)
      → AllByRecursion P (flat_map g ws)
  all_flat P g each [] = tt
  all_flat P g each (w ∷ ws) = all_append P (g w) (flat_map g ws) (each w) (all_flat P g each ws)

  pub all_map : {W : Type 0} (P : E → Type 0) (g : W → E) → ((w : W) → P (g w)) → (ws : List W) → AllByRecursion P (map g ws)
  all_map P g each [] = tt
  all_map P g each (w ∷ ws) = (each w, all_map P g each ws)

  -- the items that pass, told by an option
  abbrev pub where_so : (E → Bool) → E → Option E
  where_so p x = if p x then Some x else None

  pub filter_as_map : (p : E → Bool) (xs : List E) → filter p xs ≡ filter_map (where_so p) xs
  filter_as_map p [] = refl
  filter_as_map p (x ∷ xs) =
      elim (p x) as (λ b. cond b (x ∷ filter p xs) (filter p xs) ≡ cons_option (if b then Some x else None) (filter_map (where_so p) xs))
      [ true ↦ ap (λ l. x ∷ l) (filter_as_map p xs) | false ↦ filter_as_map p xs ]

  pub all_pass : (p : E → Bool) (xs : List E) → AllByRecursion (λ x. p x ≡ true) xs → filter_map (where_so p) xs ≡ xs
  all_pass p [] all = refl
  all_pass p (x ∷ xs) all = rw all.0 (ap (λ l. x ∷ l) (all_pass p xs all.1))

  pub among_get : (x : E) (xs : List E) → Among x xs → (p : ℕ) × (slice_get xs p ≡ Some x)
  among_get x [] a = absurd a
  among_get x (y ∷ xs) (inl is) = (zero, ap (λ z. Some z) (sym is))
  among_get x (y ∷ xs) (inr a) = let r = among_get x xs a in (suc r.0, r.1)

  pub reverse_get : (x : E) (xs : List E) → Among x xs → (p : ℕ) × (slice_get (reverse xs) p ≡ Some x)
  reverse_get x [] a = absurd a
  reverse_get x (y ∷ xs) (inl is) = (
    length (reverse xs),
    ap (λ (l : List E). slice_get l (length (reverse xs))) (reverse_onto xs y [])
        ∙ get_last (reverse xs) y ∙ ap (λ z. Some z) (sym is),
  )
  reverse_get x (y ∷ xs) (inr a) =
      let r = reverse_get x xs a in
      (r.0, ap (λ (l : List E). slice_get l r.0) (reverse_onto xs y []) ∙ get_front (reverse xs) (y ∷ []) r.0 x r.1)

-- A deed stands at the place that its past gives.
pub older_get : (deed : Deed) (past h : List Deed) → Older (deed ∷ past) h → slice_get (reverse h) (length past) ≡ Some deed
older_get deed past [] o = absurd (no_item deed past o)
older_get deed past (first ∷ rest) (inl is) =
    let l : length past ≡ length (reverse rest) = ap length (tails deed first past rest is) ∙ sym (length-reverse rest) in
    ap (λ (xs : List Deed). slice_get xs (length past)) (reverse_onto rest first [])
    ∙ ap (slice_get (reverse rest ++ first ∷ [])) l ∙ get_last (reverse rest) first ∙ ap (λ z. Some z) (sym (heads deed first past rest is))
  where
    tails : (a b : Deed) (xs ys : List Deed) → a ∷ xs ≡ b ∷ ys → xs ≡ ys
    tails a b xs ys e = cc

    heads : (a b : Deed) (xs ys : List Deed) → a ∷ xs ≡ b ∷ ys → a ≡ b
    heads a b xs ys e = cc
older_get deed past (first ∷ rest) (inr o) =
    ap (λ (xs : List Deed). slice_get xs (length past)) (reverse_onto rest first [])
    ∙ get_front (reverse rest) (first ∷ []) (length past) deed (older_get deed past rest o)

-- ---- what a function gives of lists

cons_append : {B : Type 0} (o : Option B) (xs : List B) → cons_option o [] ++ xs ≡ cons_option o xs
cons_append None xs = refl
cons_append (Some x) xs = refl

module _ {D B W : Type 0} where
  -- what f gives of all that g gives of the items
  pub filter_flat : (f : D → Option B) (g : W → List D) (k : W → Option B) (Q : W → Type 0)
      → ((w : W) → Q w → filter_map f (g w) ≡ cons_option (k w) []) → (ws : List W) → AllByRecursion Q ws
      → filter_map f (flat_map g ws) ≡ filter_map k ws
  filter_flat f g k Q each [] all = refl
  filter_flat f g k Q each (w ∷ ws) all =
      filter_map-append f (g w) (flat_map g ws)
      ∙ ap (λ (xs : List B). xs ++ filter_map f (flat_map g ws)) (each w all.0)
      ∙ cons_append (k w) (filter_map f (flat_map g ws))
      ∙ ap (cons_option (k w)) (filter_flat f g k Q each ws all.1)

module _ {D B : Type 0} where
  pub filter_mapped : {W : Type 0} (f : D → Option B) (g : W → D) (k : W → B) → ((w : W) → f (g w) ≡ Some (k w)) → (ws : List W)
      → filter_map f (map g ws) ≡ map k ws
  filter_mapped f g k each [] = refl
  filter_mapped f g k each (w ∷ ws) = rw (each w) (ap (λ xs. k w ∷ xs) (filter_mapped f g k each ws))

pub map_itself : {A : Type 0} (xs : List A) → map (λ x. x) xs ≡ xs
map_itself [] = refl
map_itself (x ∷ xs) = ap (λ l. x ∷ l) (map_itself xs)

pub get_some : {A : Type 0} (xs : List A) (k : ℕ) → k < length xs → (x : A) × (slice_get xs k ≡ Some x)
get_some [] k less = absurd (omega (arith, less))
get_some (x ∷ xs) zero less = (x, refl)
get_some (x ∷ xs) (suc k) less = get_some xs k (omega (arith, less))

-- ---- places

pub shorter : (q h : List Deed) → Older q h → length q ≤ length h
shorter q [] o = rw o (omega arith)
shorter q (first ∷ past) (inl is) = rw is (omega arith)
shorter q (first ∷ past) (inr o) = let e = shorter q past o in omega (arith, e)

older_self : (h : List Deed) → Older h h
older_self [] = refl
older_self (deed ∷ past) = inl refl

-- of two places the one with fewer deeds is older
pub older_below : (deed : Deed) (early past h : List Deed) → Older early h → Older (deed ∷ past) h → length early ≤ length past
    → Older early past
older_below deed early past [] o p le = absurd (no_item deed past p)
older_below deed early past (first ∷ rest) o (inl is) le = at_first o
  where
    tails : deed ∷ past ≡ first ∷ rest → past ≡ rest
    tails e = cc

    at_first : (early ≡ first ∷ rest) ⊎ Older early rest → Older early past
    at_first (inl same) = let l = ap length same in let k = ap length (tails is) in absurd (omega arith)
    at_first (inr o') = subst (Older early) (sym (tails is)) o'
older_below deed early past (first ∷ rest) (inl same) (inr p) le =
    let l = ap length same in let k = shorter (deed ∷ past) rest p in absurd (omega arith)
older_below deed early past (first ∷ rest) (inr o) (inr p) le = older_below deed early past rest o p le

-- ---- counts

pub count_cons : {A : Type 0} (p : A → Bool) (x : A) (xs : List A) → count_by p (x ∷ xs) ≡ cond (p x) 1 0 + count_by p xs
count_cons p x xs = sum_by-cons (λ y. cond (p y) 1 0) x xs

pub count_append : {A : Type 0} (p : A → Bool) (xs ys : List A) → count_by p (xs ++ ys) ≡ count_by p xs + count_by p ys
count_append p xs ys = sum_by-append (λ y. cond (p y) 1 0) xs ys
