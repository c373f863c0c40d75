use Rattle.std.proofs.Common.{◌≡◌, ◌<◌, ℕ, Bool, true, get_or}
use Rattle.gr_host.proofs.ends.Ends.all.Given as goal

abbrev pub invariant-loop-k : goal.invariant-loop-k
invariant-loop-k l = (j : ℕ) (b : Bool) → j < l.k → get_or l.self-inside.ended.items j b ≡ true
