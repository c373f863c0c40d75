use Rattle.std.proofs.Common.{◌≡◌, take}
use Rattle.std.specs.Prelude.{flat_map}
use Rattle.gr_oql.specs.Events.{told_all}
use Rattle.gr_route.proofs.openings.told_of.Given as goal

abbrev pub invariant-loop-turned : goal.invariant-loop-turned
invariant-loop-turned l = l.events ≡ flat_map (told_all l.query) (take l.turned-index l.lists)
