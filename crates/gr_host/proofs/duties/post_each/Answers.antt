use Rattle.gr_host.proofs.Steps.{posts_more, posts_none}
use Rattle.gr_host.proofs.duties.post_each.Goals as goal

pub loop-shard-init : goal.loop-shard-init
loop-shard-init c = posts_none c.args.to c.args.reports.now c.args.courier.now

pub loop-shard-preserved : goal.loop-shard-preserved
loop-shard-preserved c =
    posts_more c.args.to c.args.reports.now c.args.courier.now c.loop-shard.courier c.post_at.new.courier c.loop-shard.shard
    c.loop-shard.invariant c.post_at.ensures.carries c.in_ok-post_at.ensures.posted
