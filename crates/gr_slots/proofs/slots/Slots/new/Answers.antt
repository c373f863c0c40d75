use Rattle.std.proofs.Common.{ap, sym}
use Rattle.gr_slots.specs.Slots.{tombstones}
use Rattle.gr_slots.proofs.Listed.{none_listed}
use Rattle.gr_slots.proofs.slots.Slots.new.Goals as goal

pub invariant_of-result : goal.invariant_of-result
invariant_of-result c = record {
  indexed = none_listed c.new.result c.new-2.result c.new.ensures c.new-2.ensures.ordered;
  apart = tt;
  counted = ap tombstones (sym c.new.ensures);
  ready = tt;
}
