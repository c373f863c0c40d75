use Rattle.std.proofs.Common.{◌∙◌, ap, sym}
use Rattle.gr_stamp.specs.declared.change.Change.{Change}
use Rattle.gr_value.specs.Shard.{shard_of}
use Rattle.gr_world.specs.Stages.{heading_at}
use Rattle.gr_world.proofs.Worlds.{deliver_plays, shard_within}
use Rattle.gr_world.proofs.world.World.deliver.Goals as goal

pub does-requires-clause-site : goal.does-requires-clause-site
does-requires-clause-site c =
    let script = c.args.stage.script.now in
    record {
      work = c.requires.work;
      member = c.requires.member;
      shard = shard_within c.get.result.now.key c.shard-shard.result script.shards script.ruled.heading.shards.0 c.shard-shard.ensures;
    }

pub does-requires-clause-here : goal.does-requires-clause-here
does-requires-clause-here c =
    let shards = c.args.stage.script.now.shards in
    sym (c.shard-shard.ensures ∙ ap (λ (change : Change). shard_of change.key shards) c.get.ensures)

pub returns-in_ok-does : goal.returns-in_ok-does
returns-in_ok-does c =
    let shards = c.args.stage.script.now.shards in
    deliver_plays (heading_at c.args.stage) c.args.self.now _ c.args.to c.args.client c.args.seq c.shard-shard.result c.in-Some.change
    (λ events world. sym c.in-Some.is ∙ c.in_ok-change.ensures events world)
    (c.shard-shard.ensures ∙ ap (λ (change : Change). shard_of change.key shards) c.get.ensures) c.in_ok-does.ensures
