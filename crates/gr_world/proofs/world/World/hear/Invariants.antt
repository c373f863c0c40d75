use Rattle.gr_world.specs.Courses.{for_each, hears_of}
use Rattle.gr_world.specs.Stages.{heading_at}
use Rattle.gr_world.specs.Worlds.{Plays}
use Rattle.gr_world.proofs.world.World.hear.Given as goal

abbrev pub invariant-loop-shard : goal.invariant-loop-shard
invariant-loop-shard l =
    let heading = heading_at l.fn.stage in
    Plays heading (for_each l.shard (hears_of heading l.fn.by l.fn.of l.fn.number)) l.fn.self l.self
