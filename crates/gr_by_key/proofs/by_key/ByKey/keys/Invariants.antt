use Rattle.std.proofs.Common.{◌≡◌, map}
use Rattle.gr_by_key.proofs.by_key.ByKey.keys.Given as goal

abbrev pub invariant-loop-key : goal.invariant-loop-key
invariant-loop-key g l = l.keys ≡ map (λ key. key.now) l.yielded
