-- Entries in the order of their keys are known by what is found at each key.
use Rattle.std.proofs.Common.{◌≡◌, ◌∙◌, ap, sym, subst, refl, List, [], ◌∷◌, Bool, true, false, Option, Some, None, option_map, is_some}
use Rattle.std.proofs.Common.{filter}
use Rattle.std.specs.Cmp.{IsTotalOrder, eq_by_cmp_equiv}
use Rattle.std.specs.List.{filter_map, list_any}
use Rattle.std.specs.List.Sorted.{IsStrictlySortedBy}
use Rattle.std.proofs.lemmas.List.Kept.{IsStrictlySortedBy-filter}
use Rattle.std.specs.Map.{lookup, keys_of}
use Rattle.std.specs.BTreeMap.{is_at}
use Rattle.std.specs.Ordering.{ordering_reverse, is_eq}
use Rattle.std.specs.declared.cmp.Ordering.{Ordering}
use Rattle.std.specs.declared.cmp.Ordering.TheVariants.{Less, Equal, Greater}
use Rattle.std.proofs.lemmas.Map.{lookup-none}
use Rattle.std.proofs.lemmas.Map.Entries.{lookup_head, lookup_tail, none_past_head, none_below_head}
use Rattle.std.proofs.lemmas.Map.Keys.{sorted_tail, IsDistinct-from_sorted}

-- what is found at these keys, in their order
abbrev pub found_at : {K X : Type 0} → (K → Option X) → List K → List (K × X)
found_at find ks = filter_map (λ k. option_map (λ x. (k, x)) (find k)) ks

pub is_equal : (o : Ordering) → is_eq o ≡ true → o ≡ Equal
is_equal Less e = absurd cc
is_equal Equal e = refl
is_equal Greater e = absurd cc

refl_is : {K : Type 0} {R : K → K → Ordering} → IsTotalOrder R → (k : K) → is_at (R k) k ≡ true
refl_is total k = (eq_by_cmp_equiv total).refl k

module _ {K X : Type 0} (R : K → K → Ordering) (total : IsTotalOrder R) (same : (x y : K) → R x y ≡ Equal → x ≡ y) where
  -- two lists that begin with one key
  heads : (k : K) (x y : X) (es fs : List (K × X)) → IsStrictlySortedBy R (keys_of ((k, x) ∷ es))
      → IsStrictlySortedBy R (keys_of ((k, y) ∷ fs))
      → ((q : K) → lookup (is_at (R q)) ((k, x) ∷ es) ≡ lookup (is_at (R q)) ((k, y) ∷ fs))
      → (x ≡ y) × ((q : K) → lookup (is_at (R q)) es ≡ lookup (is_at (R q)) fs)
  heads k x y es fs s t all =
      let at_head : Some x ≡ Some y =
      sym (lookup_head (is_at (R k)) (k, x) es (refl_is total k)) ∙ all k ∙ lookup_head (is_at (R k)) (k, y) fs (refl_is total k) in
      (some_is at_head, λ q. at_key q (is_at (R q) k) refl)
    where
      some_is : Some x ≡ Some y → x ≡ y
      some_is e = cc

      at_key : (q : K) (b : Bool) → is_at (R q) k ≡ b → lookup (is_at (R q)) es ≡ lookup (is_at (R q)) fs
      at_key q true e =
          lookup-none (is_at (R q)) es (none_past_head (eq_by_cmp_equiv total) q (k, x) es (IsDistinct-from_sorted R _ s) e)
          ∙ sym (lookup-none (is_at (R q)) fs (none_past_head (eq_by_cmp_equiv total) q (k, y) fs (IsDistinct-from_sorted R _ t) e))
      at_key q false e =
          sym (lookup_tail (is_at (R q)) (k, x) es e) ∙ all q ∙ lookup_tail (is_at (R q)) (k, y) fs e

  -- a key that is found in the one list, and is below all of the other
  apart : (e : K × X) (es : List (K × X)) (f : K × X) (fs : List (K × X)) → IsStrictlySortedBy R (keys_of (f ∷ fs))
      → R e.0 f.0 ≡ Less → lookup (is_at (R e.0)) (e ∷ es) ≡ lookup (is_at (R e.0)) (f ∷ fs) → ⊥
  apart e es f fs t less all =
      let none : Some e.1 ≡ None =
      sym (lookup_head (is_at (R e.0)) e es (refl_is total e.0)) ∙ all
      ∙ lookup-none (is_at (R e.0)) (f ∷ fs) (none_below_head total e.0 f fs t less) in
      cc

  -- Two ordered lists in which the same is found at each key are one list.
  pub one_order : (es fs : List (K × X)) → IsStrictlySortedBy R (keys_of es) → IsStrictlySortedBy R (keys_of fs)
      → ((q : K) → lookup (is_at (R q)) es ≡ lookup (is_at (R q)) fs) → es ≡ fs
  one_order [] [] s t all = refl
  one_order [] (f ∷ fs) s t all = absurd (let e : None ≡ Some f.1 = all f.0 ∙ lookup_head (is_at (R f.0)) f fs (refl_is total f.0) in cc)
  one_order (e ∷ es) [] s t all =
      absurd (let f : Some e.1 ≡ None = sym (lookup_head (is_at (R e.0)) e es (refl_is total e.0)) ∙ all e.0 in cc)
  one_order (e ∷ es) (f ∷ fs) s t all = at_order (R e.0 f.0) refl (one_order es fs (sorted_tail R _ _ s) (sorted_tail R _ _ t))
    where
      at_order : (o : Ordering) → R e.0 f.0 ≡ o → (((q : K) → lookup (is_at (R q)) es ≡ lookup (is_at (R q)) fs) → es ≡ fs)
          → e ∷ es ≡ f ∷ fs
      at_order Less is rest = absurd (apart e es f fs t is (all e.0))
      at_order Greater is rest =
          let less : R f.0 e.0 ≡ Less = total.antisymm f.0 e.0 ∙ ap ordering_reverse is in
          absurd (apart f fs e es s less (sym (all f.0)))
      at_order Equal is rest =
          let key : e.0 ≡ f.0 = same e.0 f.0 is in
          let both = heads f.0 e.1 f.1 es fs (subst (λ k. IsStrictlySortedBy R (k ∷ keys_of es)) key s) t
          (λ q. ap (λ k. lookup (is_at (R q)) ((k, e.1) ∷ es)) (sym key) ∙ all q) in
          ap (λ k. (k, e.1) ∷ es) key ∙ ap (λ x. (f.0, x) ∷ es) both.0 ∙ ap (λ rest. f ∷ rest) (rest both.1)

  keys-found_at : (find : K → Option X) (ks : List K) → keys_of (found_at find ks) ≡ filter (λ k. is_some (find k)) ks
  keys-found_at find [] = refl
  keys-found_at find (k ∷ ks) = at_key (find k) refl (keys-found_at find ks)
    where
      at_key : (o : Option X) → find k ≡ o → keys_of (found_at find ks) ≡ filter (λ k. is_some (find k)) ks
          → keys_of (found_at find (k ∷ ks)) ≡ filter (λ k. is_some (find k)) (k ∷ ks)
      at_key None e rest = rw e rest
      at_key (Some x) e rest = rw e (ap (λ rest. k ∷ rest) rest)

  none_found : (find : K → Option X) (q : K) (ks : List K) → find q ≡ None → lookup (is_at (R q)) (found_at find ks) ≡ None
  none_found find q [] e = refl
  none_found find q (k ∷ ks) e = at_key (find k) refl (none_found find q ks e)
    where
      at_key : (o : Option X) → find k ≡ o → lookup (is_at (R q)) (found_at find ks) ≡ None
          → lookup (is_at (R q)) (found_at find (k ∷ ks)) ≡ None
      at_key None f rest = rw f rest
      at_key (Some x) f rest = rw f (at_test (is_at (R q) k) refl)
        where
          at_test : (b : Bool) → is_at (R q) k ≡ b → lookup (is_at (R q)) ((k, x) ∷ found_at find ks) ≡ None
          at_test true t = absurd (let k_is : find q ≡ find k = ap find (same q k (is_equal (R q k) t)) in cc)
          at_test false t = lookup_tail (is_at (R q)) (k, x) (found_at find ks) t ∙ rest

  one_found : (find : K → Option X) (q : K) (x : X) (ks : List K) → find q ≡ Some x → list_any (is_at (R q)) ks ≡ true
      → lookup (is_at (R q)) (found_at find ks) ≡ Some x
  one_found find q x [] e a = absurd cc
  one_found find q x (k ∷ ks) e a = at_key (find k) refl (is_at (R q) k) refl (one_found find q x ks e)
    where
      at_key : (o : Option X) → find k ≡ o → (b : Bool) → is_at (R q) k ≡ b
          → (list_any (is_at (R q)) ks ≡ true → lookup (is_at (R q)) (found_at find ks) ≡ Some x)
          → lookup (is_at (R q)) (found_at find (k ∷ ks)) ≡ Some x
      at_key None f true t rest = absurd (let k_is : find q ≡ find k = ap find (same q k (is_equal (R q k) t)) in cc)
      at_key None f false t rest = rw f (rest (rw t at a))
      at_key (Some y) f true t rest =
          let k_is : find q ≡ find k = ap find (same q k (is_equal (R q k) t)) in
          let y_is : Some y ≡ Some x = sym f ∙ sym k_is ∙ e in
          rw f (lookup_head (is_at (R q)) (k, y) (found_at find ks) t ∙ y_is)
      at_key (Some y) f false t rest = rw f (lookup_tail (is_at (R q)) (k, y) (found_at find ks) t ∙ rest (rw t at a))

  -- Ordered entries are what is found at some ordered keys, where nothing is found at another key.
  pub tabulated : (es : List (K × X)) (ks : List K) (find : K → Option X) → IsStrictlySortedBy R (keys_of es) → IsStrictlySortedBy R ks
      → ((q : K) → lookup (is_at (R q)) es ≡ find q)
      → ((q : K) (x : X) → find q ≡ Some x → list_any (is_at (R q)) ks ≡ true) → es ≡ found_at find ks
  tabulated es ks find s t all some =
      one_order es (found_at find ks) s
      (subst (IsStrictlySortedBy R) (sym (keys-found_at find ks)) (IsStrictlySortedBy-filter R (λ k. is_some (find k)) ks t))
      (λ q. all q ∙ sym (at_key q (find q) refl))
    where
      at_key : (q : K) (o : Option X) → find q ≡ o → lookup (is_at (R q)) (found_at find ks) ≡ find q
      at_key q None e = none_found find q ks e ∙ sym e
      at_key q (Some x) e = one_found find q x ks e (some q x e) ∙ sym e
