use Rattle.std.proofs.Common.{◌∙◌, ap, sym, subst, is_some}
use Rattle.gr_slots.specs.Slots.{tombstones}
use Rattle.gr_slots.specs.Removals.{AreIndexed}
use Rattle.gr_slots.specs.Late.{with_late, IsApart}
use Rattle.gr_slots.proofs.Counted.{set_kept}
use Rattle.gr_slots.proofs.Waiting.{still_ready}
use Rattle.gr_slots.proofs.slots.Slots.set.Goals as goal

pub invariant_of-self : goal.invariant_of-self
invariant_of-self c =
    let was = c.self.inside in
    let ready = c.settle.ensures in
    record {
      indexed = ready.indexed;
      apart = ready.apart;
      counted = c.self.invariant.counted ∙ ap tombstones (sym ready.rows);
      ready = still_ready was.room was.late c.settle.new.late was.unlisted c.settle.new.unlisted was.count ready.none_late
          ready.none_unlisted c.self.invariant.ready;
    }

pub invariant_of-self-in_err-before : goal.invariant_of-self-in_err-before
invariant_of-self-in_err-before c =
    let was = c.self.inside in
    let late = c.settle.new.late in
    let next = c.set_listed.new.cells in
    let ready = c.in_ok-settle.ensures in
    record {
      indexed = subst (λ unlisted. AreIndexed unlisted next c.set_listed.new.removals) (sym ready.listed) c.set_listed.ensures.indexed;
      apart = subst (λ late. IsApart late next) (sym ready.late) tt;
      counted = c.self.invariant.counted ∙ ap tombstones (sym (ap (with_late late) c.in_err-before.ensures.err ∙ ready.rows));
      ready = still_ready was.room was.late late was.unlisted c.settle.new.unlisted was.count ready.none_late ready.none_unlisted
          c.self.invariant.ready;
    }

pub invariant_of-self-2 : goal.invariant_of-self-2
invariant_of-self-2 c =
    let was = c.self.inside in
    let rows = c.settle.new.cells in
    let late = c.settle.new.late in
    let next = c.set_listed.new.cells in
    let ready = c.in_ok-settle.ensures in
    let set = c.in_ok-before.ensures in
    record {
      indexed = subst (λ unlisted. AreIndexed unlisted next c.set_listed.new.removals) (sym ready.listed) c.set_listed.ensures.indexed;
      apart = subst (λ late. IsApart late next) (sym ready.late) tt;
      counted = set_kept c.args.key.now c.args.slot rows (with_late late next) was.count c.counted-self-inside.result c.is_some.result
          c.is_some-2.result ready.indexed.ordered
          (c.self.invariant.counted ∙ ap tombstones (sym ready.rows ∙ ap (λ late. with_late late rows) ready.late))
          (c.is_some.ensures ∙ ap is_some set.before) (c.is_some-2.ensures ∙ ap is_some c.removed_at-after.ensures)
          c.counted-self-inside.ensures (ap (λ late. with_late late next) ready.late ∙ set.ok);
      ready = tt;
    }
