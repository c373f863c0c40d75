use Rattle.std.proofs.Common.{◌∙◌, ap, sym, is_some}
use Rattle.gr_slots.specs.Slots.{tombstones}
use Rattle.gr_slots.specs.Late.{with_late}
use Rattle.gr_slots.proofs.Counted.{drop_kept}
use Rattle.gr_slots.proofs.Found.{without-none}
use Rattle.gr_slots.proofs.slots.Slots.drop_slot.Goals as goal

pub invariant_of-self : goal.invariant_of-self
invariant_of-self c =
    let was = c.self.inside in
    record {
      indexed = c.leave_either.ensures.indexed was.unlisted was.removals c.self.invariant.indexed;
      apart = c.leave_either.ensures.apart;
      counted = c.self.invariant.counted
          ∙ ap tombstones (sym (c.leave_either.ensures.gone
          ∙ without-none c.args.key.now (with_late was.late was.cells) (sym c.in_default.ensures.slot)));
      ready = tt;
    }

pub invariant_of-self-2 : goal.invariant_of-self-2
invariant_of-self-2 c =
    let was = c.self.inside in
    record {
      indexed = c.leave_either.ensures.indexed was.unlisted was.removals c.self.invariant.indexed;
      apart = c.leave_either.ensures.apart;
      counted = drop_kept c.args.key.now c.in-Some.slot (with_late was.late was.cells)
          (with_late c.leave_either.new.late c.leave_either.new.cells) was.count c.counted-self-inside.result c.is_some.result
          c.self.invariant.counted c.in-Some.ensures.slot (c.is_some.ensures ∙ ap is_some c.removed_at.ensures)
          c.counted-self-inside.ensures c.leave_either.ensures.gone;
      ready = tt;
    }
