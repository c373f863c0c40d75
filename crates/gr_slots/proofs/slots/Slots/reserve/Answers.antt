use Rattle.std.proofs.Common.{◌∙◌, ap, sym}
use Rattle.gr_slots.specs.Slots.{tombstones}
use Rattle.gr_slots.proofs.Waiting.{still_ready}
use Rattle.gr_slots.proofs.slots.Slots.reserve.Goals as goal

-- where memory is refused
pub invariant_of-self : goal.invariant_of-self
invariant_of-self c =
    let was = c.self.inside in
    record {
      indexed = c.settle.ensures.indexed;
      apart = c.settle.ensures.apart;
      counted = c.self.invariant.counted ∙ ap tombstones (sym c.settle.ensures.rows);
      ready = still_ready was.room was.late c.settle.new.late was.unlisted c.settle.new.unlisted was.count c.settle.ensures.none_late
          c.settle.ensures.none_unlisted c.self.invariant.ready;
    }
