-- Bit m - 1 of members as bits is member m's.
use Rattle.std.proofs.Common.{zero, suc, ◌+◌, ◌-◌, ◌*◌, ◌^◌, ◌≡◌, ◌⊎◌, ℕ, ◌≤◌, ◌<◌, Bool, true, false, refl}
use Rattle.std.proofs.Common.{◌∙◌, subst, inl, inr, arith, if◌then◌else◌}
use Rattle.std.specs.Int.{bit_at}
use Rattle.std.proofs.lemmas.Nat.Bits.{bit_at_cat_low, bit_at_cat_high}
use Rattle.gr_history.specs.Recipients.{member_bits}

power_more : (n : ℕ) → 2 ^ suc n ≡ 2 ^ n + 2 ^ n
power_more n = grind arith

bits_below : (test : ℕ → Bool) (n : ℕ) → member_bits test n < 2 ^ n
bits_below test zero = omega arith
bits_below test (suc n) = at_test (test (suc n)) (bits_below test n)
  where
    at_test : (b : Bool) → member_bits test n < 2 ^ n → member_bits test n + (if b then 2 ^ n else 0) < 2 ^ suc n
    at_test true h = let e = power_more n in omega (arith, h, e)
    at_test false h = let e = power_more n in omega (arith, h, e)

pub bits_at : (test : ℕ → Bool) (n i : ℕ) → i < n → bit_at (member_bits test n) i ≡ (if test (suc i) then 1 else 0)
bits_at test zero i h = absurd (omega (arith, h))
bits_at test (suc n) i h = at_place (cases_le n i) (λ lt. bits_at test n i lt)
  where
    cases_le : (a b : ℕ) → (b < a) ⊎ (a ≤ b)
    cases_le a b = grind arith

    as_cat : (b : Bool) → member_bits test n + (if b then 2 ^ n else 0) ≡ (if b then 1 else 0) * 2 ^ n + member_bits test n
    as_cat true = omega arith
    as_cat false = omega arith

    at_top : (b : Bool) → bit_at (if b then 1 else 0) (n - n) ≡ (if b then 1 else 0)
    at_top true = let e : n - n ≡ 0 = omega arith in rw e refl
    at_top false = let e : n - n ≡ 0 = omega arith in rw e refl

    at_place : (i < n) ⊎ (n ≤ i) → (i < n → bit_at (member_bits test n) i ≡ (if test (suc i) then 1 else 0))
        → bit_at (member_bits test (suc n)) i ≡ (if test (suc i) then 1 else 0)
    at_place (inl lt) next = rw (as_cat (test (suc n))) (
        bit_at_cat_low (if test (suc n) then 1 else 0) n (member_bits test n) i lt ∙ next lt)
    at_place (inr le) next =
        let e : n ≡ i = omega (arith, h, le) in
        subst (λ k. bit_at (member_bits test (suc n)) k ≡ (if test (suc k) then 1 else 0)) e
        (rw (as_cat (test (suc n)))
        (bit_at_cat_high (if test (suc n) then 1 else 0) n (member_bits test n) n (bits_below test n) (omega arith)
        ∙ at_top (test (suc n))))
