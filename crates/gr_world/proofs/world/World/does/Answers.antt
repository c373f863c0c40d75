use Rattle.std.proofs.Common.{[], refl}
use Rattle.gr_world.specs.Stages.{heading_at}
use Rattle.gr_world.specs.Tasks.{doing_of}
use Rattle.gr_world.specs.Worlds.{account_left}
use Rattle.gr_world.proofs.Opened.{belongs_too, work_id}
use Rattle.gr_world.proofs.Worlds.{task_plays, work_cell}
use Rattle.gr_world.proofs.world.World.does.Goals as goal

pub cell_mut-cell-requires : goal.cell_mut-cell-requires
cell_mut-cell-requires c =
    work_cell (heading_at c.args.stage) c.args.self.now c.args.site c.requires.site

pub does-requires : goal.does-requires
does-requires c =
    let heading = heading_at c.args.stage in
    let site = c.args.site in
    let was = c.cell_mut-cell.result.now in
    belongs_too (account_left heading [] site.member site.shard) was (doing_of c.args.task)
    (work_id heading c.args.self.now site was c.requires.site c.cell_mut-cell.ensures.shows)
    c.requires.here

pub returns : goal.returns
returns c =
    let site = c.args.site in
    task_plays (heading_at c.args.stage) c.args.self.now site.member site.shard c.args.task _ c.cell_mut-cell.result.now c.does.new.self
    c.requires.site.member c.requires.site.shard
    (record { lent = c.cell_mut-cell.ensures.shows; deed_is = refl; added = c.in_ok-does.ensures })
