use Rattle.std.proofs.Common.{[], ◌≡◌, ◌≤◌, ◌<◌, ◌+◌, ◌*◌, ◌^◌, arith, ap, sym, ◌∙◌, lit<}
use Rattle.gr_history.specs.Recipients.{is_recipient, member_bits, recipients}
use Rattle.gr_shard.proofs.Made.{member_bits-set, member_bits-unset, power-one_more}
use Rattle.std.proofs.Math.Nat.{pow-le-pow_right}
use Rattle.gr_shard.proofs.making.first_recipients.Goals as goal
use Rattle.gr_shard.proofs.making.first_recipients.Goals.{then-is_first_recipient, else-is_first_recipient}

pub loop-below-preserved : goal.loop-below-preserved
loop-below-preserved c =
    let now = c.loop-below.invariant in
    let twice : c.loop-below.bit * 2 ≡ 2 ^ (c.loop-below.below + 1) = omega (arith, now.bit, power-one_more c.loop-below.below) in
    let most : c.loop-below.bit * 2 ≤ 256 = rw twice (pow-le-pow_right (lit< tt) {i = c.loop-below.below + 1} {j = 8} (omega arith)) in
    let to : (c.if-is_first_recipient.to < c.loop-below.bit * 2)
    × (c.if-is_first_recipient.to ≡ member_bits (is_recipient c.args.id []) (c.loop-below.below + 1)) =
    elim c.if-is_first_recipient.branch [
      | then-is_first_recipient w ↦ (
        omega arith,
        w.to-is ∙ member_bits-set (is_recipient c.args.id []) c.loop-below.below c.loop-below.to c.loop-below.bit
            now.bits now.bit (sym w.if-is_first_recipient.ensures),
      )
      | else-is_first_recipient w ↦ (
        omega arith,
        w.to-is ∙ member_bits-unset (is_recipient c.args.id []) c.loop-below.below c.loop-below.to c.loop-below.bit
            now.bits now.bit (sym w.if-is_first_recipient.ensures),
      )
    ] in
    record { bit = twice; least = omega arith; most = most; small = to.0; bits = to.1 }

pub returns : goal.returns
unfolding recipients
returns c =
    let eight : c.loop-below.below ≡ 8 = omega arith in
    c.loop-below.invariant.bits ∙ ap (λ n. member_bits (is_recipient c.args.id []) n) eight
