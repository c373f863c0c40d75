use Rattle.std.specs.Prelude.{◌≡◌, ◌≤◌, vec_len}
use Rattle.std.specs.Vec.{vec_capacity}
use Rattle.gr_runner.proofs.runner.signs_of.Given as goal

abbrev pub invariant-loop-k : goal.invariant-loop-k
invariant-loop-k l = record { many : vec_len l.signs ≡ l._k; room : l.fn.members ≤ vec_capacity l.signs }
