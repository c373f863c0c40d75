use Rattle.std.proofs.Common.{◌≡◌, ◌≤◌, map, length}
use Rattle.std.specs.Vec.{vec_capacity}
use Rattle.gr_post.specs.Lanes.{pass_of}
use Rattle.gr_post.proofs.lanes.passes_home.Given as goal

abbrev pub invariant-loop-lane : goal.invariant-loop-lane
invariant-loop-lane l = (l.passes.items ≡ map pass_of l.yielded) × (length l.fn.lanes.items ≤ vec_capacity l.passes)
