-- The small record is whole.
use Rattle.std.proofs.Common.{◌≡◌, ◌⊎◌, ℕ, ◌≤◌, List, [], Bool, true, false, ◌==◌, refl, subst, inl, inr, arith, if◌then◌else◌}
use Rattle.std.specs.Prelude.{Some, None}
use Rattle.std.proofs.lemmas.Bool.Decides.{nat_tests}
use Rattle.gr_history.specs.Recipients.{recipients}
use Rattle.gr_history.specs.declared.deed.Deed.{Deed}
use Rattle.gr_history.specs.Standing.{standing}
use Rattle.gr_history.specs.Floor.{floor}
use Rattle.gr_history.specs.Stable.{is_due, is_stable}
use Rattle.gr_law.specs.Grids.{identity, at_place}
use Rattle.gr_law.specs.Small.{key, second, image, history_1, history_2, history_3, history, small}
use Rattle.gr_history.specs.Lawful.{IsLawful}
use Rattle.gr_law.specs.Integrity.{IsGenuine, IsImagedOnce, AreHeard, IsWhole, IsGift}

lawful_1 : IsLawful (identity small 1) 0 history_1
unfolding recipients
lawful_1 = (tt, (record { member_is = refl; at_is = refl; own_is = refl; to_is = refl; vector_is = refl }, (refl, (refl, tt))))

lawful_2 : IsLawful (identity small 2) 0 history_2
unfolding recipients is_stable
lawful_2 = (tt, (refl, (tt, (tt, (refl, (refl, tt))))))

lawful_3 : IsLawful (identity small 3) 0 history_3
unfolding recipients
lawful_3 = (refl, (refl, (refl, (record { member_is = refl; at_is = refl; own_is = refl; to_is = refl; vector_is = refl }, (refl, tt)))))

pub stands_3 : standing key history_3 ≡ Some second
stands_3 = refl

pub dropped_3 : standing key (at_place 4 history_3) ≡ None
dropped_3 = refl

pub floor_3 : floor 0 history_3 ≡ 2
floor_3 = refl

not_yet : is_due (identity small 2) 599 (at_place 4 history_2) key ≡ false
not_yet = refl

now : is_due (identity small 2) 600 (at_place 4 history_2) key ≡ true
unfolding is_stable
now = refl

each : (P : ℕ → List Deed → Type 0) → P 1 history_1 → P 2 history_2 → P 3 history_3 → ((m : ℕ) → P m []) → (m : ℕ) → P m (history m)
each P one two three none m = at_one (m == 1) refl
  where
    first_ : (m == 1) ≡ true → 1 ≡ m
    first_ h = grind (arith, nat_tests)

    second_ : (m == 2) ≡ true → 2 ≡ m
    second_ h = grind (arith, nat_tests)

    third : (m == 3) ≡ true → 3 ≡ m
    third h = grind (arith, nat_tests)

    at_three : (b : Bool) → (m == 3) ≡ b → P m (if b then history_3 else [])
    at_three true e = subst (λ k. P k history_3) (third e) three
    at_three false e = none m

    at_two : (b : Bool) → (m == 2) ≡ b → P m (if b then history_2 else if m == 3 then history_3 else [])
    at_two true e = subst (λ k. P k history_2) (second_ e) two
    at_two false e = at_three (m == 3) refl

    at_one : (b : Bool) → (m == 1) ≡ b → P m (if b then history_1 else if m == 2 then history_2 else if m == 3 then history_3 else [])
    at_one true e = subst (λ k. P k history_1) (first_ e) one
    at_one false e = at_two (m == 2) refl

gift : IsGift small 3 image
gift = record {
  from_founder = omega arith;
  gave = inl refl;
  is_image = record { giver_is = refl; at_is = refl; rows_are = refl; vector_is = refl; floor_is = refl };
}

-- There are records with sweeps and images that meet all premises of the laws.
pub small-whole : IsWhole small
small-whole = record {
  sound = record {
    few = omega arith;
    lawful = each (λ m h. IsLawful (identity small m) 0 h) lawful_1 lawful_2 lawful_3 (λ m. tt);
    genuine = each (λ m h. IsGenuine small m h) (tt, (tt, (inl refl, (tt, tt)))) (tt, (tt, (tt, (tt, (tt, (inl refl, tt)))))) (
      tt,
      ((omega arith, gift), (inl refl, (tt, (inl refl, tt)))),
    ) (λ m. tt);
    once = each (λ m h. IsImagedOnce h) tt tt tt (λ m. tt);
    outside = each (λ m h. (1 ≤ m) × (m ≤ 3)
        ⊎ (h ≡ [])) (inl (omega arith, omega arith)) (inl (omega arith, omega arith)) (inl (omega arith, omega arith)) (λ m. inr refl);
  };
  heard = each (λ m h. AreHeard small h) (tt, (tt, (tt, (tt, tt)))) (
    tt,
    (tt, (inr (inr (inr (inl refl))), (inr (inl refl), (tt, (tt, tt))))),
  ) (tt, (tt, (tt, (tt, (tt, tt))))) (λ m. tt);
}
