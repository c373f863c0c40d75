use Rattle.std.proofs.Common.{◌≡◌, ◌<◌, ℕ, length, get_or}
use Rattle.gr_post.specs.Couriers.{Line, LineMoves, tables_of}
use Rattle.gr_post.proofs.courier.Courier.flush.Given as goal

abbrev pub invariant-loop : goal.invariant-loop
invariant-loop g l =
    (goal.iterator-loop g).can_next l.iterator' × (goal.iterator-loop g).is_finite l.iterator'
    × (l.self ≡ record l.initial.self { lines = l.self.lines })
    × (tables_of l.self ≡ tables_of l.initial.self)
    × (length l.self.lines ≡ length l.initial.self.lines)
    × ((k : ℕ) (d : Line) → k < length l.initial.self.lines → LineMoves (get_or l.initial.self.lines k d) (get_or l.self.lines k d))
