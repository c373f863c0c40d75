-- A change that a call made goes to its recipients, and each recipient has its bit.
use Rattle.std.proofs.Common.{◌≡◌, ℕ, zero, suc, ◌+◌, ◌-◌, ◌*◌, ◌/◌, ◌%◌, ◌≤◌, ◌==◌, Bool, true, false}
use Rattle.std.proofs.Common.{List, Some}
use Rattle.std.proofs.Common.{refl, sym, ap, ◌∙◌, arith, if◌then◌else◌}
use Rattle.gr_stamp.specs.declared.change.Change.{Change}
use Rattle.gr_history.specs.declared.identity.Identity.{Identity}
use Rattle.gr_history.specs.declared.ask.Ask.{Ask}
use Rattle.gr_history.specs.declared.reply.Reply.{Reply}
use Rattle.gr_history.specs.declared.deed.Deed.{Deed}
use Rattle.gr_history.specs.declared.deed.Deed.TheVariants.{Call}
use Rattle.gr_history.specs.Lawful.{IsLawfulDeed}
use Rattle.gr_history.specs.Recipients.{recipients, is_recipient, member_bits}
use Rattle.gr_post.specs.Plan.{is_named}
use Rattle.gr_law.proofs.Made.{gives_made}

abbrev one_bit : Bool → ℕ
one_bit b = if b then 1 else 0

bit_small : (b : Bool) → one_bit b ≤ 1
bit_small true = omega arith
bit_small false = omega arith

bit_times : (b : Bool) (p : ℕ) → (if b then p else 0) ≡ p * one_bit b
bit_times true p = omega arith
bit_times false p = omega arith

abbrev eight : ℕ → ℕ → ℕ → ℕ → ℕ → ℕ → ℕ → ℕ → ℕ
eight a b c d e f g h = a + 2 * b + 4 * c + 8 * d + 16 * e + 32 * f + 64 * g + 128 * h

module _ (a b c d e f g h : ℕ) (ka : a ≤ 1) (kb : b ≤ 1) (kc : c ≤ 1) (kd : d ≤ 1) (ke : e ≤ 1) (kf : f ≤ 1) (kg : g ≤ 1) (kh : h ≤ 1) where
  bit_1 : a ≡ 1 → eight a b c d e f g h / 1 % 2 ≡ 1
  bit_1 is = omega arith

  bit_2 : b ≡ 1 → eight a b c d e f g h / 2 % 2 ≡ 1
  bit_2 is = omega arith

  bit_3 : c ≡ 1 → eight a b c d e f g h / 4 % 2 ≡ 1
  bit_3 is = omega arith

  bit_4 : d ≡ 1 → eight a b c d e f g h / 8 % 2 ≡ 1
  bit_4 is = omega arith

  bit_5 : e ≡ 1 → eight a b c d e f g h / 16 % 2 ≡ 1
  bit_5 is = omega arith

  bit_6 : f ≡ 1 → eight a b c d e f g h / 32 % 2 ≡ 1
  bit_6 is = omega arith

  bit_7 : g ≡ 1 → eight a b c d e f g h / 64 % 2 ≡ 1
  bit_7 is = omega arith

  bit_8 : h ≡ 1 → eight a b c d e f g h / 128 % 2 ≡ 1
  bit_8 is = omega arith

module _ (t : ℕ → Bool) where
  bits : member_bits t 8
      ≡ eight (one_bit (t 1)) (one_bit (t 2)) (one_bit (t 3)) (one_bit (t 4)) (one_bit (t 5)) (one_bit (t 6))
      (one_bit (t 7)) (one_bit (t 8))
  bits =
      let a = bit_times (t 1) 1 in
      let b = bit_times (t 2) 2 in
      let c = bit_times (t 3) 4 in
      let d = bit_times (t 4) 8 in
      let e = bit_times (t 5) 16 in
      let f = bit_times (t 6) 32 in
      let g = bit_times (t 7) 64 in
      let h = bit_times (t 8) 128 in
      omega arith

  one_of : (b : Bool) → b ≡ true → one_bit b ≡ 1
  one_of b is = rw is refl

  test_one : (x : ℕ) → x ≡ 1 → (x == 1) ≡ true
  test_one x is = rw is refl

  -- so each of the eight positions tells its member
  bits_named : (member : ℕ) → 1 ≤ member → member ≤ 8 → t member ≡ true → is_named (member_bits t 8) (member - 1) ≡ true
  bits_named zero low high is = absurd (omega arith)
  bits_named (suc zero) low high is =
      test_one _ (ap (λ n. n / 1 % 2) bits ∙ bit_1 _ _ _ _ _ _ _ _ (bit_small (t 1)) (bit_small (t 2)) (bit_small (t 3)) (bit_small (t 4))
      (bit_small (t 5)) (bit_small (t 6)) (bit_small (t 7)) (bit_small (t 8)) (one_of (t 1) is))
  bits_named (suc (suc zero)) low high is =
      test_one _ (ap (λ n. n / 2 % 2) bits ∙ bit_2 _ _ _ _ _ _ _ _ (bit_small (t 1)) (bit_small (t 2)) (bit_small (t 3)) (bit_small (t 4))
      (bit_small (t 5)) (bit_small (t 6)) (bit_small (t 7)) (bit_small (t 8)) (one_of (t 2) is))
  bits_named (suc (suc (suc zero))) low high is =
      test_one _ (ap (λ n. n / 4 % 2) bits ∙ bit_3 _ _ _ _ _ _ _ _ (bit_small (t 1)) (bit_small (t 2)) (bit_small (t 3)) (bit_small (t 4))
      (bit_small (t 5)) (bit_small (t 6)) (bit_small (t 7)) (bit_small (t 8)) (one_of (t 3) is))
  bits_named (suc (suc (suc (suc zero)))) low high is =
      test_one _ (ap (λ n. n / 8 % 2) bits ∙ bit_4 _ _ _ _ _ _ _ _ (bit_small (t 1)) (bit_small (t 2)) (bit_small (t 3)) (bit_small (t 4))
      (bit_small (t 5)) (bit_small (t 6)) (bit_small (t 7)) (bit_small (t 8)) (one_of (t 4) is))
  bits_named (suc (suc (suc (suc (suc zero))))) low high is =
      test_one _ (ap (λ n. n / 16 % 2) bits ∙ bit_5 _ _ _ _ _ _ _ _ (bit_small (t 1)) (bit_small (t 2)) (bit_small (t 3)) (bit_small (t 4))
      (bit_small (t 5)) (bit_small (t 6)) (bit_small (t 7)) (bit_small (t 8)) (one_of (t 5) is))
  bits_named (suc (suc (suc (suc (suc (suc zero)))))) low high is =
      test_one _ (ap (λ n. n / 32 % 2) bits ∙ bit_6 _ _ _ _ _ _ _ _ (bit_small (t 1)) (bit_small (t 2)) (bit_small (t 3)) (bit_small (t 4))
      (bit_small (t 5)) (bit_small (t 6)) (bit_small (t 7)) (bit_small (t 8)) (one_of (t 6) is))
  bits_named (suc (suc (suc (suc (suc (suc (suc zero))))))) low high is =
      test_one _ (ap (λ n. n / 64 % 2) bits ∙ bit_7 _ _ _ _ _ _ _ _ (bit_small (t 1)) (bit_small (t 2)) (bit_small (t 3)) (bit_small (t 4))
      (bit_small (t 5)) (bit_small (t 6)) (bit_small (t 7)) (bit_small (t 8)) (one_of (t 7) is))
  bits_named (suc (suc (suc (suc (suc (suc (suc (suc zero)))))))) low high is =
      test_one _ (ap (λ n. n / 128 % 2) bits ∙ bit_8 _ _ _ _ _ _ _ _ (bit_small (t 1)) (bit_small (t 2)) (bit_small (t 3)) (bit_small (t 4))
      (bit_small (t 5)) (bit_small (t 6)) (bit_small (t 7)) (bit_small (t 8)) (one_of (t 8) is))
  bits_named (suc (suc (suc (suc (suc (suc (suc (suc (suc n))))))))) low high is = absurd (omega arith)

-- the member's bit is set where the change goes to it
pub bit_set : (id : Identity) (past : List Deed) (member : ℕ) → 1 ≤ member → member ≤ 8 → is_recipient id past member ≡ true
    → is_named (recipients id past) (member - 1) ≡ true
unfolding recipients
bit_set id past member low high is = bits_named (is_recipient id past) member low high is

-- a change that a call made goes to the recipients
pub made_to_all : (id : Identity) (opening client to number : ℕ) (ask : Ask) (reply : Reply) (change : Change) (past : List Deed)
    → IsLawfulDeed id opening (Call client to number ask reply (Some change)) past → to ≡ recipients id past
made_to_all id opening client to number ask reply change past law =
    ap (λ d. d.to) law ∙ (gives_made id opening past ask change (sym (ap (λ d. d.made) law))).1.1
