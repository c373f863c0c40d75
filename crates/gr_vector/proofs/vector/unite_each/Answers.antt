use Rattle.std.proofs.Common.{◌∙◌, take, ap, sym, rules, arith, length-take-le}
use Rattle.gr_vector.specs.Views.{is_held}
use Rattle.gr_vector.proofs.Members.{pushed_both, both_taken}
use Rattle.gr_vector.proofs.vector.unite_each.Goals as goal

pub loop-place-preserved : goal.loop-place-preserved
loop-place-preserved c = record {
  count = search rules;
  held = λ k v.
      ap (is_held k v) c.in_ok-push.ensures.items
      ∙ pushed_both c.loop-place.place c.loop-place.both.items (take c.loop-place.place c.args.ours.now)
      (take c.loop-place.place c.args.theirs.now)
      c.in_ok-united.field-0 c.index-ours-place.result c.index-theirs-place.result
      c.loop-place.invariant.count
      (length-take-le c.loop-place.place c.args.ours.now (omega (arith, c.loop-place-test.true)))
      (length-take-le c.loop-place.place c.args.theirs.now (omega (arith, c.loop-place-test.true, c.requires)))
      c.loop-place.invariant.held c.in_ok-united.ensures k v
      ∙ sym (both_taken k v c.loop-place.place c.args.ours.now c.args.theirs.now c.index-ours-place.result c.index-theirs-place.result
      c.loop-place-test.true (omega (arith, c.loop-place-test.true, c.requires)) c.index-ours-place.is c.index-theirs-place.is);
}
