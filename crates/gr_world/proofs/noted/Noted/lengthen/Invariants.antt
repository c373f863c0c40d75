use Rattle.std.proofs.Common.{◌≡◌, ◌+◌, ◌-◌, ℕ, None, get_or, length, map}
use Rattle.gr_world.specs.Noted.{place_kept}
use Rattle.gr_world.proofs.noted.Noted.lengthen.Given as goal

abbrev pub invariant-loop-self : goal.invariant-loop-self
invariant-loop-self l = (k : ℕ) → get_or (map place_kept l.self-inside.places.items) k None ≡ get_or l.fn.self k None

abbrev pub decreases-loop-self : goal.decreases-loop-self
decreases-loop-self l = l.fn.number + 1 - length l.self-inside.places.items
