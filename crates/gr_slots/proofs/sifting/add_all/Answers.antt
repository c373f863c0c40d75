use Rattle.std.proofs.Common.{◌∙◌, ap, true}
use Rattle.std.specs.Prelude.{cond}
use Rattle.std.specs.Ordering.{nat_cmp}
use Rattle.std.specs.Cmp.Lexicographic.{slice_cmp}
use Rattle.std.specs.BTreeMap.{is_at}
use Rattle.std.specs.BTreeSet.{contains}
use Rattle.gr_slots.proofs.Sifted.{one_more}
use Rattle.gr_slots.proofs.sifting.add_all.Goals as goal

pub loop-key-preserved : goal.loop-key-preserved
loop-key-preserved c = record {
  found = λ q.
      let had = contains (slice_cmp nat_cmp) c.loop-key.found q in
      one_more q c.args.keys.now c.loop-key.key-index c.key-item.result (contains (slice_cmp nat_cmp) c.args.found.now q) had
      (contains (slice_cmp nat_cmp) c.insert.new.self q) c.loop-key-test.true c.key-item.is (c.loop-key.invariant.found q)
      (c.in_ok-insert.ensures.updates.0 q ∙ ap (λ key. cond (is_at (slice_cmp nat_cmp key) q) true had) c.in_ok-copy.ensures);
  ordered = λ was. c.insert.ensures.ordered;
}
