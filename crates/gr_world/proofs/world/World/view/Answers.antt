use Rattle.std.proofs.Common.{◌∙◌}
use Rattle.gr_world.specs.Stages.{heading_at}
use Rattle.gr_world.proofs.Opened.{seen_left}
use Rattle.gr_world.proofs.Worlds.{work_cell}
use Rattle.gr_world.proofs.world.World.view.Goals as goal

pub cell-requires : goal.cell-requires
cell-requires c =
    work_cell (heading_at c.args.stage) c.args.self.now c.args.site c.requires

pub returns : goal.returns
returns c =
    seen_left (heading_at c.args.stage) c.args.self.now c.args.site.member c.args.site.shard _ c.requires.member c.requires.shard
    (c.shard.ensures ∙ c.cell.ensures)
