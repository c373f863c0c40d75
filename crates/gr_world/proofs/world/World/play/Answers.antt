use Rattle.std.proofs.Common.{[], sym, subst}
use Rattle.gr_world.specs.Courses.{after}
use Rattle.gr_world.specs.Stages.{heading_at}
use Rattle.gr_world.specs.Worlds.{IsWorld, Plays}
use Rattle.gr_world.proofs.Worlds.{sweeps_alone}
use Rattle.gr_world.proofs.world.World.play.Goals as goal

pub returns-in_ok-at_each_shard-in-Sweep : goal.returns-in_ok-at_each_shard-in-Sweep
returns-in_ok-at_each_shard-in-Sweep c =
    let heading = heading_at c.args.stage in
    let new = c.at_each_shard-in-Sweep.new.self in
    subst (λ line. Plays heading (after heading [] line) c.args.self.now new) (sym c.in-Sweep.is)
    (λ events is. subst (λ all. IsWorld heading all new)
    (sweeps_alone heading c.in-Sweep.member c.in-Sweep.moment heading.shards events)
    (c.in_ok-at_each_shard-in-Sweep.ensures events is))
