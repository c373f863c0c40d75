use Rattle.std.specs.Prelude.{◌≤◌, vec_len}
use Rattle.std.specs.Vec.{vec_capacity}
use Rattle.gr_runner.proofs.Taken.{TakenSoFar}
use Rattle.gr_runner.proofs.taking.take_each.Given as goal

abbrev pub invariant-loop-k : goal.invariant-loop-k
invariant-loop-k l = record {
  held : vec_len l.fn.passes ≤ vec_capacity l.taken;
  taken : TakenSoFar l.fn.passes.items l.passes.items l.taken.items l.k;
}
