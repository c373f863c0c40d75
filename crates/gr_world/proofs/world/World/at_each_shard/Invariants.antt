use Rattle.gr_world.specs.Courses.{does, for_each}
use Rattle.gr_world.specs.Stages.{heading_at}
use Rattle.gr_world.specs.Tasks.{doing_of}
use Rattle.gr_world.specs.Worlds.{Plays}
use Rattle.gr_world.proofs.world.World.at_each_shard.Given as goal

abbrev pub invariant-loop-shard : goal.invariant-loop-shard
invariant-loop-shard l =
    let heading = heading_at l.fn.stage in
    Plays heading (for_each l.shard (λ shard. does heading l.fn.member shard (doing_of l.fn.task))) l.fn.self l.self
