use Rattle.std.proofs.Common.{◌≡◌, ◌++◌, take}
use Rattle.gr_oql.specs.Events.{told_all}
use Rattle.gr_route.proofs.openings.tell.Given as goal

abbrev pub invariant-loop-one : goal.invariant-loop-one
invariant-loop-one l = l.events ≡ l.initial.events ++ told_all l.query (take l.one-index l.turned)
