use Rattle.std.specs.Prelude.{◌≡◌, [], vec_len}
use Rattle.std.specs.List.{AllByRecursion}
use Rattle.gr_runner.proofs.dealing.end_each.Given as goal

abbrev pub invariant-loop-left : goal.invariant-loop-left
invariant-loop-left l = AllByRecursion (λ left. left ≡ []) l.passes.items

abbrev pub decreases-loop-left : goal.decreases-loop-left
decreases-loop-left l = vec_len l.passes
