use Rattle.std.proofs.Common.{◌≡◌, ◌∙◌, ap, ◌+◌, arith}
use Rattle.gr_world.specs.Worlds.{new_row}
use Rattle.gr_world.proofs.Lists.{numbers_more}
use Rattle.gr_world.proofs.grid.Grid.new.Goals as goal

pub loop-below-preserved : goal.loop-below-preserved
loop-below-preserved c =
    let e : c.loop-below.below + 1 ≡ 1 + c.loop-below.below = omega arith in
    c.in_ok-push.ensures.items
    ∙ numbers_more 1 c.loop-below.below (new_row c.args.id c.args.floor) _ _ c.loop-below.invariant
    (c.in_ok-new.ensures ∙ ap (new_row c.args.id c.args.floor) e)
