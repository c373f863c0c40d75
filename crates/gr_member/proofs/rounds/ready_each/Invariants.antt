use Rattle.gr_member.proofs.Going.{LookedUpto}
use Rattle.gr_member.proofs.rounds.ready_each.Given as goal

abbrev pub invariant-loop-k : goal.invariant-loop-k
invariant-loop-k g l = LookedUpto l.initial.shards.items l.shards.items l.k
