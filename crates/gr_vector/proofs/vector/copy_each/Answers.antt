use Rattle.std.proofs.Common.{◌∙◌, take, ap, sym, rules, arith, length-take-le}
use Rattle.gr_vector.specs.Views.{is_held}
use Rattle.gr_vector.proofs.Members.{pushed_same, take_next}
use Rattle.gr_vector.proofs.vector.copy_each.Goals as goal

pub loop-numbers-preserved : goal.loop-numbers-preserved
loop-numbers-preserved c = record {
  count = search rules;
  held = λ k v.
      ap (is_held k v) c.in_ok-push.ensures.items
      ∙ pushed_same c.loop-numbers.numbers-index c.loop-numbers.copies.items (take c.loop-numbers.numbers-index c.args.members.now)
      c.in_ok-copy.field-0 c.numbers-item.result
      c.loop-numbers.invariant.count (length-take-le c.loop-numbers.numbers-index c.args.members.now
      (omega (arith, c.loop-numbers-test.true)))
      c.loop-numbers.invariant.held c.in_ok-copy.ensures k v
      ∙ ap (is_held k v) (sym (take_next c.loop-numbers.numbers-index c.args.members.now c.numbers-item.result c.loop-numbers-test.true
      c.numbers-item.is));
}
