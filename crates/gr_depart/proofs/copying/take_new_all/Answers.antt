use Rattle.gr_world.specs.Courses.{takes_new}
use Rattle.gr_world.specs.Stages.{heading_at}
use Rattle.gr_world.proofs.Handing.{of_more_plays}
use Rattle.gr_depart.proofs.copying.take_new_all.Goals as goal

pub loop-change-preserved : goal.loop-change-preserved
loop-change-preserved c =
    let heading = heading_at c.args.stage in
    of_more_plays heading (takes_new heading c.args.site.member c.args.site.shard) c.args.changes.now c.loop-change.change-index
    c.change-item.result c.args.world.now c.loop-change.world _ c.loop-change-test.true c.change-item.is c.loop-change.invariant
    c.in_ok-take_new.ensures
