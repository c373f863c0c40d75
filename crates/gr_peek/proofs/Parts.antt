-- Entries in parts stay those of a map.
use Rattle.std.proofs.Common.{◌≡◌, ◌≢◌, ℕ, zero, suc, ◌<◌, ◌==◌, List, Bool, true, false, length, get_or, replicate, refl, sym, ap, ◌∙◌, cond, arith, get_or-set_same, get_or-set_other}
use Rattle.std.specs.Prelude.{Option}
use Rattle.std.specs.Ordering.{nat_cmp, eq_by_cmp}
use Rattle.std.specs.Cmp.Lexicographic.{slice_cmp}
use Rattle.std.specs.FinMap as finite
use Rattle.std.proofs.lemmas.Bool.Decides.{nat_tests}
use Rattle.std.proofs.lemmas.Grind.{common_steps}
use Rattle.std.proofs.lemmas.Map.Text.{is_eq-slice_cmp}
use Rattle.std.proofs.lemmas.Slice.Eq.{bytes_eq-Decides}
use Rattle.gr_by_key.specs.Maps.{ByKey, with_value}
use Rattle.gr_by_key.proofs.Maps.{get_with_value}
use Rattle.gr_peek.specs.Parts.{place_of, part_of, found_in, with_found, AreOf}

same_key : (key other : List ℕ) → eq_by_cmp (slice_cmp nat_cmp) key other ≡ true → key ≡ other
same_key key other is = (bytes_eq-Decides key other).0 (sym (is_eq-slice_cmp key other) ∙ is)

replicated : {A : Type 0} (count place : ℕ) (a : A) → get_or (replicate count a) place a ≡ a
replicated zero place a = refl
replicated (suc count) zero a = refl
replicated (suc count) (suc place) a = replicated count place a

module _ {V : Type 0} where
  -- of a change at a key another one sees nothing
  elsewhere : (entries : ByKey V) (key other : List ℕ) (value : Option V) → place_of other ≢ place_of key
      → finite.get (with_value key value entries) other ≡ finite.get entries other
  elsewhere entries key other value apart = get_with_value key value entries other ∙ by_test (eq_by_cmp (slice_cmp nat_cmp) key other) refl
    where
      by_test : (test : Bool) → eq_by_cmp (slice_cmp nat_cmp) key other ≡ test → cond test value (finite.get entries other) ≡ finite.get entries other
      by_test true is = absurd (apart (ap place_of (sym (same_key key other is))))
      by_test false is = refl

  module _ (entries : ByKey V) (parts : List (ByKey V)) (of : AreOf entries parts) (key : List ℕ) (value : Option V) where
    within : place_of key < length parts
    within = omega (arith, of.0)

    found : (other : List ℕ) → found_in (with_found key value parts) other ≡ finite.get (with_value key value entries) other
    found other = by_test (place_of other == place_of key) refl
      where
        here : place_of other ≡ place_of key → found_in (with_found key value parts) other ≡ finite.get (with_value key value entries) other
        here same =
            ap (λ q. finite.get (get_or (with_found key value parts) q finite.empty) other) same
            ∙ ap (λ part. finite.get part other) (get_or-set_same parts (place_of key) (with_value key value (part_of key parts)) finite.empty within)
            ∙ get_with_value key value (part_of key parts) other
            ∙ ap (λ q. cond (eq_by_cmp (slice_cmp nat_cmp) key other) value (finite.get (get_or parts q finite.empty) other)) (sym same)
            ∙ ap (cond (eq_by_cmp (slice_cmp nat_cmp) key other) value) (of.1 other)
            ∙ sym (get_with_value key value entries other)

        there : place_of other ≢ place_of key → found_in (with_found key value parts) other ≡ finite.get (with_value key value entries) other
        there apart =
            ap (λ part. finite.get part other) (get_or-set_other parts (place_of key) (place_of other) (with_value key value (part_of key parts)) finite.empty apart)
            ∙ of.1 other ∙ sym (elsewhere entries key other value apart)

        by_test : (test : Bool) → (place_of other == place_of key) ≡ test → found_in (with_found key value parts) other ≡ finite.get (with_value key value entries) other
        by_test true is = here (grind (arith, nat_tests))
        by_test false is = there (grind (arith, nat_tests))

    -- a change at one key leaves parts that are of the changed entries
    pub with_one : AreOf (with_value key value entries) (with_found key value parts)
    with_one = (grind (arith, common_steps, of.0), found)

  abbrev nothing : ByKey V
  nothing = finite.empty

  -- parts in which nothing stands
  pub none_stands : AreOf nothing (replicate 64 nothing)
  none_stands = (grind (arith, common_steps), stood)
    where
      stood : (key : List ℕ) → found_in (replicate 64 nothing) key ≡ finite.get nothing key
      stood key = ap (λ part. finite.get part key) (replicated 64 (place_of key) nothing)
