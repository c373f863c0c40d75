use Rattle.gr_world.specs.Courses.{for_each, sweeps_at}
use Rattle.gr_world.specs.Stages.{heading_at}
use Rattle.gr_world.specs.Worlds.{Plays}
use Rattle.gr_depart.proofs.closing.sweep.Given as goal

abbrev pub invariant-loop-shard : goal.invariant-loop-shard
invariant-loop-shard l =
    let heading = heading_at l.fn.stage in
    Plays heading (for_each l.shard (sweeps_at heading l.fn.gone l.fn.member l.fn.moment)) l.fn.world l.world
