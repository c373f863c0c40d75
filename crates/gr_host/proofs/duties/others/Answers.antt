use Rattle.std.proofs.Common.{◌≡◌, ◌≢◌, ℕ, ◌≤◌, ◌<◌, ◌+◌, ◌*◌, ◌^◌, ◌==◌, not, true, false, arith, ◌∙◌, lit<}
use Rattle.gr_history.specs.Recipients.{member_bits}
use Rattle.gr_shard.proofs.Made.{member_bits-set, member_bits-unset, power-one_more}
use Rattle.std.proofs.Math.Nat.{pow-le-pow_right}
use Rattle.std.proofs.lemmas.Bool.Decides.{nat_tests}
use Rattle.gr_host.proofs.duties.others.Goals as goal
use Rattle.gr_host.proofs.duties.others.Goals.{then-below-plan, else-below-plan}

apart : (a b : ℕ) → a ≢ b → not (a == b) ≡ true
apart a b h = grind (arith, nat_tests)

same : (a b : ℕ) → a ≡ b → not (a == b) ≡ false
same a b h = grind (arith, nat_tests)

pub loop-below-preserved : goal.loop-below-preserved
loop-below-preserved c =
    let now = c.loop-below.invariant in
    let below = c.loop-below-test.true in
    let few = c.requires.few in
    let twice : c.loop-below.bit * 2 ≡ 2 ^ (c.loop-below.below + 1) = omega (arith, now.bit, power-one_more c.loop-below.below) in
    let most : c.loop-below.bit * 2 ≤ 256 = rw twice (pow-le-pow_right (lit< tt) {i = c.loop-below.below + 1} {j = 8} (omega arith)) in
    let to : (c.if-below-plan.to < c.loop-below.bit * 2)
    × (c.if-below-plan.to ≡ member_bits (λ other. not (other == c.args.plan.member)) (c.loop-below.below + 1)) =
    elim c.if-below-plan.branch [
      | then-below-plan w ↦ (
        omega arith,
        w.to-is ∙ member_bits-set (λ other. not (other == c.args.plan.member)) c.loop-below.below c.loop-below.to c.loop-below.bit
            now.bits now.bit (apart (c.loop-below.below + 1) c.args.plan.member w.if-below-plan.true),
      )
      | else-below-plan w ↦ (
        omega arith,
        w.to-is ∙ member_bits-unset (λ other. not (other == c.args.plan.member)) c.loop-below.below c.loop-below.to c.loop-below.bit
            now.bits now.bit (same (c.loop-below.below + 1) c.args.plan.member w.if-below-plan.false),
      )
    ] in
    record { bit = twice; least = omega arith; most = most; small = to.0; bits = to.1 }
