use Rattle.std.proofs.Common.{◌∙◌, ap, sym, ◌||◌}
use Rattle.std.specs.Prelude.{take}
use Rattle.std.proofs.lemmas.List.Folds.{list_any_more}
use Rattle.gr_slots.specs.Slots.{slot_at}
use Rattle.gr_slots.specs.Removals.{is_listed, is_removed_at, is_removed_among}
use Rattle.gr_slots.proofs.sifting.sift_all.Goals as goal

pub loop-at-preserved : goal.loop-at-preserved
loop-at-preserved c = record {
  indexed = c.sift_at.ensures.indexed;
  found = λ q.
      let slot = slot_at q c.args.cells.now in
      let before = is_removed_among (take c.loop-at.at-index c.args.moments.now) slot in
      c.in_ok-add_all.ensures.found q
      ∙ ap (λ b. b || is_listed q c.keys_at.result.now) (c.loop-at.invariant.found q)
      ∙ ap (λ b. before || b) (ap (is_listed q) c.keys_at.ensures ∙ c.sift_at.ensures.sifted q)
      ∙ sym (list_any_more (λ at. is_removed_at at slot) c.args.moments.now c.loop-at.at-index 0 c.loop-at-test.true);
  ordered = c.add_all.ensures.ordered c.loop-at.invariant.ordered;
}
