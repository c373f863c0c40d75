use Rattle.std.specs.Prelude.{vec_len}
use Rattle.gr_member.specs.Passes.{AreTheirs}
use Rattle.gr_member.specs.Dealing.{AreAllTheirs}
use Rattle.gr_member.proofs.ending.undo.Given as goal

abbrev pub invariant-loop-from : goal.invariant-loop-from
invariant-loop-from g l = record {
  one : AreTheirs l.locks.items l.into.items;
  rest : AreAllTheirs l.locks.items l.passes.items;
}

abbrev pub decreases-loop-from : goal.decreases-loop-from
decreases-loop-from g l = vec_len l.passes
