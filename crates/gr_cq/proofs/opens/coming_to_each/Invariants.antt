use Rattle.std.proofs.Common.{◌≡◌, take}
use Rattle.gr_cq.specs.Foresight.{coming_to_each}
use Rattle.gr_cq.specs.View.{entries_of, events_in}
use Rattle.gr_cq.proofs.opens.coming_to_each.Given as goal

abbrev pub invariant-loop-one : goal.invariant-loop-one
invariant-loop-one l = events_in l.lists.items ≡ coming_to_each l.turned (entries_of (take l.one-index l.all))
