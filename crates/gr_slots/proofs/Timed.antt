-- One key, by the order of keys.
use Rattle.std.proofs.Common.{◌≡◌, refl, ℕ, List, Bool, true}
use Rattle.std.specs.Ordering.{nat_cmp, is_eq}
use Rattle.std.specs.declared.cmp.Ordering.{Ordering}
use Rattle.std.specs.declared.cmp.Ordering.TheVariants.{Less, Equal, Greater}
use Rattle.std.specs.Cmp.{IsTotalOrder, nat_cmp_total, eq_by_cmp_equiv}
use Rattle.std.specs.Cmp.Lexicographic.{slice_cmp, lists_total}
use Rattle.std.specs.BTreeMap.{is_at}
use Rattle.std.proofs.lemmas.Map.Lookups.{exact_bytes}

pub key_order : IsTotalOrder (slice_cmp nat_cmp)
key_order = lists_total nat_cmp_total

abbrev is_key : List ℕ → List ℕ → Bool
is_key key = is_at (slice_cmp nat_cmp key)

equal_is : (o : Ordering) → is_eq o ≡ true → o ≡ Equal
equal_is Less e = absurd cc
equal_is Equal e = refl
equal_is Greater e = absurd cc

pub one_key : (p q : List ℕ) → is_key p q ≡ true → p ≡ q
one_key p q e = exact_bytes p q (equal_is (slice_cmp nat_cmp p q) e)

pub key_itself : (key : List ℕ) → is_key key key ≡ true
key_itself key = (eq_by_cmp_equiv key_order).refl key
