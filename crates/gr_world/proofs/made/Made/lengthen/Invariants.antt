use Rattle.std.proofs.Common.{◌≡◌, ◌+◌, ◌-◌, ℕ, length}
use Rattle.gr_world.specs.Noted.{place_of}
use Rattle.gr_world.proofs.made.Made.lengthen.Given as goal

abbrev pub invariant-loop-self : goal.invariant-loop-self
invariant-loop-self l = (own number : ℕ) → place_of l.self-inside.rows.items own number ≡ place_of l.fn.self own number

abbrev pub decreases-loop-self : goal.decreases-loop-self
decreases-loop-self l = l.fn.client + 1 - length l.self-inside.rows.items
