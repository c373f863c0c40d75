use Rattle.std.proofs.Common.{◌++◌, subst}
use Rattle.gr_post.specs.Lanes.{Way, Moves, to_the_end}
use Rattle.gr_post.proofs.Moving.{refused_moves}
use Rattle.gr_post.proofs.lane.Lane.send.Goals as goal

pub returns-then-refuses-clause-moves : goal.returns-then-refuses-clause-moves
returns-then-refuses-clause-moves g c =
    let s = c.self.inside in
    let held = to_the_end s.late.items ++ s.held.items in
    let now : Way = record { pass = c.refuses.new.pass; waiting = s.waiting.items; held = held; ready = s.ready } in
    let yes = c.refuses.ensures.yes c.if-refuses.true in
    subst (λ (o : Way). Moves o now) c.self.view_is
    (refused_moves s.pass c.refuses.new.pass s.waiting.items held s.ready yes.0 c.refuses.ensures.never_falls)
