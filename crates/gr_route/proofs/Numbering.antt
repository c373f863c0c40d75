-- Numbers that ascend.
use Rattle.std.proofs.Common.{◌≡◌, sym, arith, ℕ, suc, ◌+◌, ◌≤◌, ◌<◌, List, [], ◌∷◌, ◌++◌, Bool, true, false, if◌then◌else◌, map}
use Rattle.std.specs.Prelude.{filter}
use Rattle.std.specs.declared.cmp.Ordering.TheVariants.{Less}
use Rattle.std.specs.Cmp.{nat_cmp_is}
use Rattle.std.specs.List.{AllByRecursion}
use Rattle.std.specs.List.Sorted.{IsStrictlySortedBy}
use Rattle.std.specs.Ordering.{nat_cmp}
use Rattle.gr_oql.specs.declared.event.Turned.{Turned}
use Rattle.gr_route.specs.declared.enrolled.Enrolled.{Enrolled}
use Rattle.gr_route.specs.Routes.{Ascend, is_reached, reached}

pub ascend_push : (from below : ℕ) (all : List Enrolled) (one : Enrolled) → one.number ≡ below → Ascend from below all
    → Ascend from (below + 1) (all ++ one ∷ [])
ascend_push from below [] one is a = (omega (arith, is, a), omega (arith, is))
ascend_push from below (first ∷ all) one is a = (a.0, ascend_push (suc first.number) below all one is a.1)

ascend_lower : (low from below : ℕ) (all : List Enrolled) → low ≤ from → Ascend from below all → Ascend low below all
ascend_lower low from below [] le a = omega (arith, le, a)
ascend_lower low from below (first ∷ all) le a = (omega (arith, le, a.0), a.1)

pub ascend_filter : (p : Enrolled → Bool) (from below : ℕ) (all : List Enrolled) → Ascend from below all
    → Ascend from below (filter p all)
ascend_filter p from below [] a = a
ascend_filter p from below (first ∷ all) a = at_test (p first) (ascend_filter p (suc first.number) below all a.1)
  where
    at_test : (b : Bool) → Ascend (suc first.number) below (filter p all)
        → Ascend from below (if b then first ∷ filter p all else filter p all)
    at_test true next = (a.0, next)
    at_test false next = ascend_lower from (suc first.number) below (filter p all) (omega (arith, a.0)) next

behind : (n from below : ℕ) (all : List Enrolled) → n < from → Ascend from below all
    → AllByRecursion (λ other. nat_cmp n other ≡ Less) (map (λ one. one.number) all)
behind n from below [] lt a = tt
behind n from below (first ∷ all) lt a =
    (sym (nat_cmp_is n first.number Less (omega (arith, lt, a.0))), behind n (suc first.number) below all (omega (arith, lt, a.0)) a.1)

numbers_sorted : (from below : ℕ) (all : List Enrolled) → Ascend from below all
    → IsStrictlySortedBy nat_cmp (map (λ one. one.number) all)
unfolding IsStrictlySortedBy
numbers_sorted from below [] a = tt
numbers_sorted from below (first ∷ all) a =
    (behind first.number (suc first.number) below all (omega arith) a.1, numbers_sorted (suc first.number) below all a.1)

pub reached_sorted : (turned : Turned) (from below : ℕ) (all : List Enrolled) → Ascend from below all
    → IsStrictlySortedBy nat_cmp (reached turned all)
reached_sorted turned from below all a =
    numbers_sorted from below (filter (is_reached turned) all) (ascend_filter (is_reached turned) from below all a)
