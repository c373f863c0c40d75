use Rattle.std.proofs.Common.{◌≡◌, ◌≤◌, List, length, take}
use Rattle.std.specs.List.{AllByRecursion}
use Rattle.gr_oql.specs.declared.event.Event.{Event}
use Rattle.gr_cq.specs.Foresight.{longest}
use Rattle.gr_cq.specs.View.{events_in}
use Rattle.gr_cq.proofs.opens.longest.Given as goal

abbrev pub invariant-loop-events : goal.invariant-loop-events
invariant-loop-events l = record {
  longest : l.most ≡ longest (events_in (take l.events-index l.lists));
  some : 1 ≤ l.most;
  within : AllByRecursion (λ (events : List Event). length events ≤ l.most) (events_in (take l.events-index l.lists));
}
