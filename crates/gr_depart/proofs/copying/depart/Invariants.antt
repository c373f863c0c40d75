use Rattle.gr_world.specs.Courses.{for_each, hands_over}
use Rattle.gr_world.specs.Stages.{heading_at}
use Rattle.gr_world.specs.Worlds.{Plays}
use Rattle.gr_depart.proofs.copying.depart.Given as goal

abbrev pub invariant-loop-shard : goal.invariant-loop-shard
invariant-loop-shard l =
    let heading = heading_at l.fn.stage in
    Plays heading (for_each l.shard (hands_over heading l.fn.gone l.fn.of)) l.fn.world l.world
