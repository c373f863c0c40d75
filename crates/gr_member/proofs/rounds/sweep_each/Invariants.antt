use Rattle.gr_member.proofs.Going.{SweptUpto}
use Rattle.gr_member.proofs.rounds.sweep_each.Given as goal

abbrev pub invariant-loop-k : goal.invariant-loop-k
invariant-loop-k g l = SweptUpto l.moment l.count l.initial.shards.items l.shards.items l.k
