use Rattle.std.proofs.Common.{◌≡◌, take}
use Rattle.gr_oql.specs.Events.{told_all}
use Rattle.gr_cq.proofs.open.told_all.Given as goal

abbrev pub invariant-loop-one : goal.invariant-loop-one
invariant-loop-one l = l.events.items ≡ told_all l.query (take l.one-index l.turned)
