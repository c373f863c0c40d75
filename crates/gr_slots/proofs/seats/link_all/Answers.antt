use Rattle.std.proofs.Common.{◌≡◌, subst, length, arith}
use Rattle.gr_slots.specs.Links.{AreLinked}
use Rattle.gr_slots.proofs.seats.link_all.Goals as goal

pub returns-clause-linked : goal.returns-clause-linked
returns-clause-linked c =
    let all : c.loop-place.place ≡ length c.loop-place.cells.items = omega arith in
    subst (λ n. AreLinked c.loop-place.seats c.loop-place.cells.items n) all c.loop-place.invariant.0
