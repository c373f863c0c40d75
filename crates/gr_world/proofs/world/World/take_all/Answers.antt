use Rattle.std.proofs.Common.{◌≡◌, subst, sym}
use Rattle.std.proofs.lemmas.List.Elements.{All-from_recursion}
use Rattle.gr_value.specs.Shard.{shard_of}
use Rattle.gr_stamp.specs.declared.change.Change.{Change}
use Rattle.gr_world.specs.Courses.{does}
use Rattle.gr_world.specs.Doings.{Takes}
use Rattle.gr_world.specs.Stages.{heading_at}
use Rattle.gr_world.proofs.Handing.{of_more_plays}
use Rattle.gr_world.proofs.world.World.take_all.Goals as goal

pub does-requires-clause-here : goal.does-requires-clause-here
does-requires-clause-here c =
    let IsHere : Change → Type 0 = λ change. shard_of change.key c.args.stage.script.now.shards ≡ c.args.site.shard in
    subst IsHere (sym c.change-item.is)
    (All-from_recursion IsHere c.args.changes.now c.requires.here c.loop-change.change-index c.change-item.result c.loop-change-test.true)

pub loop-change-preserved : goal.loop-change-preserved
loop-change-preserved c =
    let site = c.args.site in
    let heading = heading_at c.args.stage in
    of_more_plays heading (λ change. does heading site.member site.shard (Takes change)) c.args.changes.now c.loop-change.change-index
    c.change-item.result c.args.self.now c.loop-change.self _ c.loop-change-test.true c.change-item.is c.loop-change.invariant
    c.in_ok-does.ensures
