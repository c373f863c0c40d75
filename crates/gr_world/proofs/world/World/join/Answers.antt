use Rattle.gr_world.specs.Courses.{joins_at}
use Rattle.gr_world.specs.Stages.{heading_at}
use Rattle.gr_world.proofs.Worlds.{for_each_plays}
use Rattle.gr_world.proofs.world.World.join.Goals as goal

pub loop-shard-preserved : goal.loop-shard-preserved
loop-shard-preserved c =
    let heading = heading_at c.args.stage in
    for_each_plays heading (joins_at heading c.args.gone.now c.args.member c.args.provider) c.loop-shard.shard c.args.self.now
    c.loop-shard.self _ c.loop-shard.invariant c.in_ok-join_at.ensures
