use Rattle.gr_world.specs.Courses.{for_each, joins_at}
use Rattle.gr_world.specs.Stages.{heading_at}
use Rattle.gr_world.specs.Worlds.{Plays}
use Rattle.gr_world.proofs.world.World.join.Given as goal

abbrev pub invariant-loop-shard : goal.invariant-loop-shard
invariant-loop-shard l =
    let heading = heading_at l.fn.stage in
    Plays heading (for_each l.shard (joins_at heading l.fn.gone l.fn.member l.fn.provider)) l.fn.self l.self
