use Rattle.std.proofs.Common.{◌∙◌}
use Rattle.gr_world.specs.Stages.{heading_at}
use Rattle.gr_depart.proofs.Acts.{copies_plays}
use Rattle.gr_depart.proofs.copying.copy_from.Goals as goal

pub returns : goal.returns
returns c =
    copies_plays (heading_at c.args.stage) c.args.world.now _ c.args.of c.args.site.shard c.args.site.member c.args.giver
    c.view.result.now c.deref.result.now c.view.ensures (c.deref.ensures.value ∙ c.in_ok-taken.ensures) c.in_ok-take_new_all.ensures
