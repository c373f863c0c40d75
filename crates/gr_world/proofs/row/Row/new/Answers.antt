use Rattle.std.proofs.Common.{◌≡◌, ◌∙◌, ap, ◌+◌, arith}
use Rattle.gr_world.specs.Worlds.{new_account}
use Rattle.gr_world.proofs.Lists.{numbers_more}
use Rattle.gr_world.proofs.row.Row.new.Goals as goal

pub loop-shard-preserved : goal.loop-shard-preserved
loop-shard-preserved c =
    let e : c.loop-shard.shard ≡ 0 + c.loop-shard.shard = omega arith in
    c.in_ok-push.ensures.items
    ∙ numbers_more 0 c.loop-shard.shard (new_account c.args.id c.args.floor) _ _ c.loop-shard.invariant
    (c.in_ok-new.ensures ∙ ap (new_account c.args.id c.args.floor) e)
