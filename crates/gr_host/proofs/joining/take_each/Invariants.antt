use Rattle.std.proofs.Common.{take}
use Rattle.gr_member.specs.Passes.{StaysAll}
use Rattle.gr_host.specs.Joins.{TakesEach}
use Rattle.gr_host.proofs.joining.take_each.Given as goal

abbrev pub invariant-loop-change : goal.invariant-loop-change
invariant-loop-change g l = record {
  stays : StaysAll l.fn.pass l.pass;
  takes : TakesEach l.fn.member.plan.shards (take l.change-index l.change-items) l.fn.pass l.pass;
}
