use Rattle.std.proofs.Common.{◌≡◌, ◌≢◌, ℕ, ◌<◌, ◌-◌, ◌*◌, ◌%◌, ◌^◌, ◌∙◌, ◌==◌, Bool, true, false, ap, arith, bit_or, refl}
use Rattle.std.proofs.lemmas.Bool.Decides.{nat_tests}
use Rattle.std.proofs.lemmas.Nat.{shl_whole}
use Rattle.gr_shard.proofs.making.with_recipient.Goals as goal

shifted : (k : ℕ) → k < 8 → 1 * 2 ^ k % 2 ^ 8 ≡ 2 ^ k
shifted k less = shl_whole 1 1 k 8 (omega arith) (omega (arith, less)) ∙ one (2 ^ k)
  where
    one : (n : ℕ) → 1 * n ≡ n
    one n = omega arith

same : (a b : ℕ) → (a == b) ≡ true → a ≡ b
same a b e = grind (arith, nat_tests)

differ : (a b : ℕ) → a ≢ b → (test : Bool) → (a == b) ≡ test → (a == b) ≡ false
differ a b apart true e = absurd (apart (same a b e))
differ a b apart false e = e

pub returns-else-other-id : goal.returns-else-other-id
returns-else-other-id c =
    rw (differ c.args.other c.args.id.member c.if-other-id.false (c.args.other == c.args.id.member) refl)
    (ap (bit_or c.args.to) (shifted (c.args.other - 1) (omega (arith, c.requires.from, c.requires.of_eight))))
