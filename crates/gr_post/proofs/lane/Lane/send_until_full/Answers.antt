use Rattle.std.proofs.Common.{◌++◌, subst}
use Rattle.gr_post.specs.Lanes.{Way, Moves, to_the_end}
use Rattle.gr_post.proofs.Moving.{full_moves}
use Rattle.gr_post.proofs.lane.Lane.send_until_full.Goals as goal

pub returns-in-Err-clause-moves : goal.returns-in-Err-clause-moves
returns-in-Err-clause-moves g c =
    let i = c.loop-mail.invariant in
    let l = c.loop-mail.self-inside in
    let s = c.self.inside in
    let now : Way =
    record {
      pass = c.send.new.pass;
      waiting = c.push_front_reserved.new.self.items;
      held = to_the_end l.late.items ++ l.held.items;
      ready = l.ready;
    } in
    subst (λ (o : Way). Moves o now) c.self.view_is
    (full_moves s.pass l.pass c.send.new.pass s.waiting.items l.waiting.items c.pop_front.new.self.items
    c.push_front_reserved.new.self.items
    (to_the_end s.late.items ++ s.held.items) (to_the_end l.late.items ++ l.held.items) s.ready l.ready i.0 c.in-Some.mail
    c.in-Err.full.mail i.1 i.2 (λ j. to_the_end (i.3 j).items ++ (i.4 j).items) c.in-Some.ensures.items
    c.in-Err.ensures.back c.in-Err.ensures.refused.0 c.send.ensures.never_falls c.push_front_reserved.ensures.items)
