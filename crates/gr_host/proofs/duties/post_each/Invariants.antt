use Rattle.gr_host.proofs.Steps.{PostsUpto}
use Rattle.gr_host.proofs.duties.post_each.Given as goal

abbrev pub invariant-loop-shard : goal.invariant-loop-shard
invariant-loop-shard l = PostsUpto l.fn.to l.fn.reports l.fn.courier l.courier l.shard
