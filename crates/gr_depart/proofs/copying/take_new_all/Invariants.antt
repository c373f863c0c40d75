use Rattle.std.proofs.Common.{take}
use Rattle.gr_world.specs.Courses.{takes_new_all}
use Rattle.gr_world.specs.Stages.{heading_at}
use Rattle.gr_world.specs.Worlds.{Plays}
use Rattle.gr_depart.proofs.copying.take_new_all.Given as goal

abbrev pub invariant-loop-change : goal.invariant-loop-change
invariant-loop-change l =
    let heading = heading_at l.fn.stage in
    Plays heading (takes_new_all heading l.fn.site.member l.fn.site.shard (take l.change-index l.fn.changes)) l.fn.world l.world
