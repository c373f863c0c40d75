use Rattle.std.proofs.Common.{◌≡◌, take}
use Rattle.gr_route.specs.Routes.{reached}
use Rattle.gr_route.proofs.enrolled.reached.Given as goal

abbrev pub invariant-loop-one : goal.invariant-loop-one
invariant-loop-one l = l.ids ≡ reached l.turned (take l.one-index l.enrolled)
