use Rattle.std.proofs.Common.{◌≡◌, ◌++◌, take, drop}
use Rattle.gr_cq.specs.Foresight.{told_each}
use Rattle.gr_cq.specs.View.{entries_of, events_in, Fit}
use Rattle.gr_cq.proofs.opens.hear_each.Given as goal

abbrev pub invariant-loop-place : goal.invariant-loop-place
invariant-loop-place l = record {
  told : entries_of (take l.place l.all) ++ told_each (events_in (drop l.place l.lists)) (entries_of (drop l.place l.all))
      ≡ told_each (events_in l.fn.lists) (entries_of l.fn.all);
  fit : Fit (events_in (drop l.place l.lists)) (drop l.place l.all);
}
