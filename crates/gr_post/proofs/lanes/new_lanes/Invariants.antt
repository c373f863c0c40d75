use Rattle.std.proofs.Common.{◌≡◌, map}
use Rattle.gr_post.specs.Lanes.{new_way}
use Rattle.gr_post.proofs.lanes.new_lanes.Given as goal

abbrev pub invariant-loop-pass : goal.invariant-loop-pass
invariant-loop-pass l = l.lanes.items ≡ map new_way l.yielded
