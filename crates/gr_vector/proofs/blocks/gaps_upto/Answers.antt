use Rattle.std.proofs.Common.{◌≤◌, ◌+◌, ◌-◌, ◌∙◌, Bool, ap, sym, arith, if◌then◌else◌, not, ◌&&◌, suc}
use Rattle.gr_vector.specs.Blocks.{is_noted}
use Rattle.gr_vector.proofs.Counts.{ends_more, ends_past}
use Rattle.gr_vector.proofs.blocks.gaps_upto.Goals as goal

one_at_most : (a : Bool) → (if a then 1 else 0) ≤ 1
one_at_most a = grind arith

pub loop-number-preserved : goal.loop-number-preserved
loop-number-preserved c =
    let one = one_at_most (not (is_noted c.loop-number.number c.args.blocks.now) && is_noted (suc c.loop-number.number) c.args.blocks.now) in
    record {
      some = omega (arith, c.skipped-number.ensures.later);
      few = omega (arith, c.skipped-number.ensures.later, c.loop-number.invariant.few, c.end_at-gaps.ensures, one);
      counted = ap (λ n. c.loop-number.gaps + n) c.end_at-gaps.ensures
          ∙ ap (λ n. n + (if not (is_noted c.loop-number.number c.args.blocks.now) && is_noted (suc c.loop-number.number) c.args.blocks.now
          then 1 else 0)) c.loop-number.invariant.counted
          ∙ sym (ends_more c.loop-number.number c.skipped-number.result (λ v. is_noted v c.args.blocks.now) c.loop-number.invariant.some
          c.skipped-number.ensures.later c.skipped-number.ensures.steady);
    }

pub returns : goal.returns
returns c =
    c.loop-number.invariant.counted
    ∙ ends_past (c.loop-number.number - 1) c.args.top (λ v. is_noted v c.args.blocks.now) c.requires.beyond
    (omega (arith, c.loop-number-test.false))
