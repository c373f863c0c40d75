use Rattle.std.proofs.Common.{◌∙◌, ap, subst, is_some}
use Rattle.gr_slots.specs.Slots.{HeldSlots, tombstones}
use Rattle.gr_slots.specs.Removals.{AreIndexed}
use Rattle.gr_slots.specs.Late.{with_late, IsReady}
use Rattle.gr_slots.proofs.Counted.{set_kept}
use Rattle.gr_slots.proofs.slots.Slots.set_reserved.Goals as goal

pub invariant_of-self : goal.invariant_of-self
invariant_of-self c =
    let was = c.self.inside in
    let put = c.put_or_wait-before.ensures in
    let ready = subst (λ room. IsReady room was.late was.unlisted was.count)
    (ap (λ (held : HeldSlots). held.room) c.self.view_is ∙ c.requires) c.self.invariant.ready in
    record {
      indexed = put.indexed was.removals (subst (λ unlisted. AreIndexed unlisted was.cells was.removals) ready.1 c.self.invariant.indexed);
      apart = put.apart;
      counted = set_kept c.args.key c.args.slot was.cells
          (with_late c.put_or_wait-before.new.late c.put_or_wait-before.new.cells) was.count c.counted-self-inside.result
          c.is_some.result c.is_some-2.result c.self.invariant.indexed.ordered
          (c.self.invariant.counted ∙ ap (λ late. tombstones (with_late late was.cells)) ready.0)
          (c.is_some.ensures ∙ ap is_some put.before) (c.is_some-2.ensures ∙ ap is_some c.removed_at-after.ensures)
          c.counted-self-inside.ensures put.entries;
      ready = tt;
    }
