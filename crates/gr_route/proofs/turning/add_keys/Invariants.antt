use Rattle.std.proofs.Common.{◌≡◌, take}
use Rattle.gr_route.specs.Turning.{with_keys}
use Rattle.gr_route.proofs.turning.add_keys.Given as goal

abbrev pub invariant-loop-key : goal.invariant-loop-key
invariant-loop-key l = l.set.keys ≡ with_keys l.initial.set.keys (take l.key-index l.keys)
