use Rattle.std.proofs.Common.{◌≡◌, ◌≤◌, drop, length}
use Rattle.gr_law.specs.QueryMaps.{map_of}
use Rattle.gr_durable.proofs.playing.map_of.Given as goal

abbrev pub decreases-loop-left : goal.decreases-loop-left
decreases-loop-left l = l.left

abbrev pub invariant-loop-left : goal.invariant-loop-left
invariant-loop-left l = (l.all ≡ map_of (drop l.left l.rows)) × (l.left ≤ length l.rows)
