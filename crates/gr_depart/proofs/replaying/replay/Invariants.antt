use Rattle.std.proofs.Common.{◌≡◌, reverse, take}
use Rattle.gr_script.specs.Scripts.{heading_of}
use Rattle.gr_script.specs.Steps.{departed}
use Rattle.gr_world.specs.Courses.{course}
use Rattle.gr_world.specs.Worlds.{IsWorld}
use Rattle.gr_depart.proofs.replaying.replay.Given as goal

abbrev pub invariant-loop-line : goal.invariant-loop-line
invariant-loop-line l =
    IsWorld (heading_of l.script) (course (heading_of l.script) (reverse (take l.line-index l.line-items))) l.departing.world
    × (l.departing.gone.items ≡ departed (reverse (take l.line-index l.line-items)))
