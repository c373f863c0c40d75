use Rattle.std.proofs.Common.{List, ap, subst}
use mathlib.Core.List.{IsPrefix}
use Rattle.gr_oql.specs.declared.event.Turned.{Turned}
use Rattle.gr_peek.proofs.Still.{longer_adds}
use Rattle.gr_peek.proofs.told.Told.shows.Goals as goal

pub returns : goal.returns
returns c is =
    let both = c.learn.new.self.log in
    let this : IsPrefix c.self.inside.seen.log both = subst (λ (l : List (List Turned)). IsPrefix l both) (ap (λ s. s.log) c.again-both.ensures) c.learn.ensures.2 in
    rw (← c.self.view_is, ← c.other.view_is)
    (longer_adds c.self.inside.seen.log c.other.inside.seen.log both c.self.inside.count c.other.inside.turned_at this c.learn.ensures.3 c.self.invariant.0 c.other.invariant.1 is)
