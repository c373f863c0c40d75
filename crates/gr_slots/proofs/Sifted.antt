-- What is left of a list of keys, once it is rid of what is stale, sorted, and rid of what stands twice.
use Rattle.std.proofs.Common.{◌≡◌, ◌∙◌, ap, sym, subst, ℕ, List, Bool, ◌&&◌, filter, bytes_eq, arith}
use Rattle.std.proofs.Common.{◌+◌, ◌<◌, ◌||◌, true, false, refl, length, get_or}
use Rattle.std.specs.Prelude.{cond, take}
use Rattle.std.specs.BTreeMap.{is_at}
use Rattle.std.proofs.lemmas.List.Folds.{list_any_more}
use Rattle.std.specs.Ordering.{nat_cmp, eq_by_cmp}
use Rattle.std.specs.Cmp.{IsEquivalence, both_ways, eq_by_cmp_equiv}
use Rattle.std.specs.Cmp.Lexicographic.{slice_cmp}
use Rattle.std.specs.List.{dedup}
use Rattle.std.specs.List.Sorted.{IsPermutation, IsSorted, IsStrictlySortedBy}
use Rattle.std.proofs.lemmas.List.Kept.{Contains-dedup, Contains-from_dedup, IsStrictlySortedBy-dedup}
use Rattle.std.proofs.lemmas.List.Sorted.{list_any-IsPermutation}
use Rattle.std.proofs.lemmas.Map.Made.{is_member-filter}
use Rattle.std.proofs.lemmas.Map.Text.{is_eq-slice_cmp}
use Rattle.std.proofs.lemmas.Map.Views.{list_any-from_Contains, Contains-from_any}
use Rattle.gr_slots.specs.Removals.{is_listed}
use Rattle.gr_slots.proofs.Timed.{key_order, one_key}

keys_alike : IsEquivalence (eq_by_cmp (slice_cmp nat_cmp))
keys_alike = eq_by_cmp_equiv key_order

by_order : (x y : List ℕ) → bytes_eq x y ≡ eq_by_cmp (slice_cmp nat_cmp) x y
by_order x y = sym (is_eq-slice_cmp x y)

bytes_alike : IsEquivalence bytes_eq
bytes_alike = record {
  refl = λ x. by_order x x ∙ keys_alike.refl x;
  symm = λ x y. by_order x y ∙ keys_alike.symm x y ∙ sym (by_order y x);
  congr = λ x y z same. by_order x z ∙ keys_alike.congr x y z (sym (by_order x y) ∙ same) ∙ sym (by_order y z);
}

-- the same keys are listed once none stands twice
once_listed : (key : List ℕ) (keys : List (List ℕ)) → is_listed key (dedup bytes_eq keys) ≡ is_listed key keys
once_listed key keys = both_ways (is_listed key (dedup bytes_eq keys)) (is_listed key keys)
    (λ e. list_any-from_Contains keys_alike key keys
    (Contains-from_dedup bytes_eq keys key (Contains-from_any one_key key (dedup bytes_eq keys) e)))
    (λ e. list_any-from_Contains keys_alike key (dedup bytes_eq keys)
    (Contains-dedup bytes_alike (λ x y same. one_key x y (sym (by_order x y) ∙ same)) keys key
    (Contains-from_any one_key key keys e)))

pub sifted_listed : (stays : List ℕ → Bool) (old kept sorted new : List (List ℕ)) → kept ≡ filter stays old
    → IsPermutation kept sorted → new ≡ dedup bytes_eq sorted
    → (key : List ℕ) → is_listed key new ≡ (stays key && is_listed key old)
sifted_listed stays old kept sorted new is permuted once key =
    ap (is_listed key) once ∙ once_listed key sorted ∙ sym (list_any-IsPermutation _ kept sorted permuted)
    ∙ ap (is_listed key) is ∙ is_member-filter keys_alike stays key (λ x e. ap stays (one_key key x e)) old
    ∙ and_turned (is_listed key old) (stays key)
  where
    and_turned : (a b : Bool) → (a && b) ≡ (b && a)
    and_turned a b = grind arith

pub sifted_once : (sorted new : List (List ℕ)) → IsSorted (slice_cmp nat_cmp) sorted → new ≡ dedup bytes_eq sorted
    → IsStrictlySortedBy (slice_cmp nat_cmp) new
sifted_once sorted new is once =
    subst (IsStrictlySortedBy (slice_cmp nat_cmp)) (sym once) (IsStrictlySortedBy-dedup key_order by_order sorted is)

-- one key more that is put into a set
pub one_more : (q : List ℕ) (keys : List (List ℕ)) (i : ℕ) (key : List ℕ) (first had now : Bool) → i < length keys
    → key ≡ get_or keys i key → had ≡ (first || is_listed q (take i keys)) → now ≡ cond (is_at (slice_cmp nat_cmp key) q) true had
    → now ≡ (first || is_listed q (take (i + 1) keys))
one_more q keys i key first had now within is before after =
    after ∙ ap (λ b. cond b true had) (keys_alike.symm key q) ∙ put (eq_by_cmp (slice_cmp nat_cmp) q key) had
    ∙ ap (λ b. b || eq_by_cmp (slice_cmp nat_cmp) q key) before
    ∙ joined first (is_listed q (take i keys)) (eq_by_cmp (slice_cmp nat_cmp) q key)
    ∙ ap (λ b. first || b) (ap (λ k. is_listed q (take i keys) || eq_by_cmp (slice_cmp nat_cmp) q k) is
    ∙ sym (list_any_more (eq_by_cmp (slice_cmp nat_cmp) q) keys i key within))
  where
    put : (b had : Bool) → cond b true had ≡ (had || b)
    put true true = refl
    put true false = refl
    put false true = refl
    put false false = refl

    joined : (a b c : Bool) → ((a || b) || c) ≡ (a || (b || c))
    joined a b c = grind arith
