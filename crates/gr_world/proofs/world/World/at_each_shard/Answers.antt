use Rattle.std.proofs.Common.{◌≡◌, [], arith, subst}
use Rattle.gr_world.specs.Courses.{does, for_each}
use Rattle.gr_world.specs.Stages.{heading_at}
use Rattle.gr_world.specs.Tasks.{doing_of}
use Rattle.gr_world.specs.Worlds.{Plays, account_left}
use Rattle.gr_world.proofs.Worlds.{for_each_plays}
use Rattle.gr_world.proofs.world.World.at_each_shard.Goals as goal

pub does-requires-clause-here : goal.does-requires-clause-here
does-requires-clause-here c = c.requires.any (account_left (heading_at c.args.stage) [] c.args.member c.loop-shard.shard)

pub loop-shard-preserved : goal.loop-shard-preserved
loop-shard-preserved c =
    let heading = heading_at c.args.stage in
    for_each_plays heading (λ shard. does heading c.args.member shard (doing_of c.args.task)) c.loop-shard.shard c.args.self.now
    c.loop-shard.self _ c.loop-shard.invariant c.in_ok-does.ensures

pub returns : goal.returns
returns c =
    let heading = heading_at c.args.stage in
    let whole : c.loop-shard.shard ≡ c.args.stage.script.now.shards = omega (arith, c.loop-shard-test.false, c.loop-shard.auto.shard-end) in
    subst (λ n. Plays heading (for_each n (λ shard. does heading c.args.member shard (doing_of c.args.task))) c.args.self.now
    c.loop-shard.self)
    whole c.loop-shard.invariant
