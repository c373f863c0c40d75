use Rattle.gr_member.proofs.Going.{LookedUp}
use Rattle.gr_member.proofs.rounds.look_each.Given as goal

abbrev pub invariant-loop-k : goal.invariant-loop-k
invariant-loop-k g l = LookedUp l.initial.shards.items l.shards.items l.k
