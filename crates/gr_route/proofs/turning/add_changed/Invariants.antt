use Rattle.std.proofs.Common.{◌≡◌, take, map}
use Rattle.gr_route.specs.Turning.{with_keys}
use Rattle.gr_route.proofs.turning.add_changed.Given as goal

abbrev pub invariant-loop-change : goal.invariant-loop-change
invariant-loop-change l = l.set.keys ≡ with_keys l.initial.set.keys (map (λ change. change.key) (take l.change-index l.changes))
