use Rattle.std.proofs.Common.{◌∙◌, ap, sym}
use Rattle.std.specs.Prelude.{option_and_then, slice_get}
use Rattle.gr_world.specs.Stages.{heading_at}
use Rattle.gr_world.proofs.Worlds.{found_cell, found_change}
use Rattle.gr_world.proofs.world.World.change_of.Goals as goal
use Rattle.gr_history.specs.Made.{made_in}

pub cell-requires : goal.cell-requires
cell-requires c =
    found_cell (heading_at c.args.stage) c.args.self.now c.args.client c.args.seq c.in-Some.place
    c.requires.many (sym c.find.ensures ∙ c.in-Some.is) c.requires.work

pub returns : goal.returns
returns c events world =
    c.in_ok-made_at.ensures ∙ ap (λ deeds. option_and_then made_in (slice_get deeds c.in-Some.place.at))
    (c.history.ensures.deeds ∙ ap (λ account. account.deeds) (c.shard-shard.ensures ∙ c.cell.ensures))
    ∙ found_change (heading_at c.args.stage) c.args.self.now c.args.client c.args.seq c.in-Some.place
    c.requires.many (sym c.find.ensures ∙ c.in-Some.is) events world
