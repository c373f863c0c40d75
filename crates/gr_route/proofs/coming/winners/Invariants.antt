use Rattle.std.proofs.Common.{◌≡◌, ◌-◌, drop, length}
use Rattle.gr_route.specs.Turning.{winners}
use Rattle.gr_route.proofs.coming.winners.Given as goal

abbrev pub invariant-loop-done : goal.invariant-loop-done
invariant-loop-done l = l.won ≡ winners l.standing (drop (length l.came - l.done) l.came)
