use Rattle.std.proofs.Common.{◌≡◌, take}
use Rattle.gr_route.specs.Turning.{fresh}
use Rattle.gr_route.proofs.coming.fresh_rows.Given as goal

abbrev pub invariant-loop-row : goal.invariant-loop-row
invariant-loop-row l = l.found ≡ fresh l.known.ids (take l.row-index l.rows)
