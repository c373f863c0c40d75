-- Entries that change places, of keys that differ.
use Rattle.std.proofs.Common.{◌≡◌, ◌∙◌, sym, refl, List, Bool, Option, Some, None}
use Rattle.std.specs.Cmp.{IsEquivalence}
use Rattle.std.specs.List.{IsDistinct}
use Rattle.std.specs.List.Sorted.{IsPermutation}
use Rattle.std.specs.Map.{lookup, keys_of}
use Rattle.std.proofs.lemmas.List.Sorted.{Contains-permutation, IsPermutation-map, IsPermutation-sym}
use Rattle.std.proofs.lemmas.Map.Keys.{IsDistinct-IsPermutation}
use Rattle.std.proofs.lemmas.Map.Views.{Contains-from_lookup, lookup-from_Contains}
use Rattle.std.proofs.Common.{true}

module _ {K X : Type 0} (eq : K → K → Bool) (laws : IsEquivalence eq) (one : (x y : K) → eq x y ≡ true → x ≡ y) where
  still_found : (xs ys : List (K × X)) → IsPermutation xs ys → IsDistinct eq (keys_of ys) → (q : K) (x : X)
      → lookup (eq q) xs ≡ Some x → lookup (eq q) ys ≡ Some x
  still_found xs ys moved distinct q x is =
      lookup-from_Contains laws q x ys distinct (Contains-permutation xs ys (q, x) moved (Contains-from_lookup one q x xs is))

  pub moved_distinct : (xs ys : List (K × X)) → IsPermutation xs ys → IsDistinct eq (keys_of xs) → IsDistinct eq (keys_of ys)
  moved_distinct xs ys moved distinct =
      IsDistinct-IsPermutation eq laws.symm (keys_of xs) (keys_of ys) (IsPermutation-map (λ entry. entry.0) xs ys moved) distinct

  -- The same is found at each key.
  pub moved_found : (xs ys : List (K × X)) → IsPermutation xs ys → IsDistinct eq (keys_of xs) → (q : K)
      → lookup (eq q) ys ≡ lookup (eq q) xs
  moved_found xs ys moved distinct q = at_found (lookup (eq q) ys) refl (lookup (eq q) xs) refl
    where
      at_found : (o : Option X) → lookup (eq q) ys ≡ o → (u : Option X) → lookup (eq q) xs ≡ u → o ≡ u
      at_found (Some x) is u was = sym (still_found ys xs (IsPermutation-sym xs ys moved) distinct q x is) ∙ was
      at_found None is (Some x) was = sym is ∙ still_found xs ys moved (moved_distinct xs ys moved distinct) q x was
      at_found None is None was = refl
