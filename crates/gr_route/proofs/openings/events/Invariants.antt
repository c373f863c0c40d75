use Rattle.std.proofs.Common.{◌≡◌, ◌++◌, drop, reverse}
use Rattle.gr_route.specs.Openings.{openings, openings_from}
use Rattle.gr_route.proofs.openings.events.Given as goal

abbrev pub invariant-loop-place : goal.invariant-loop-place
invariant-loop-place l =
    l.all ++ openings_from (reverse l.deeds) l.place (drop l.place l.deeds) ≡ openings l.deeds
