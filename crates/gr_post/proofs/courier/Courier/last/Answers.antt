use Rattle.std.proofs.Common.{ap, ◌∙◌}
use Rattle.gr_post.specs.Couriers.{Carrying, passes_of}
use Rattle.gr_post.proofs.Carried.{follows_plan, was_open, ends, settled_passes, lines_same, on_err}
use Rattle.gr_post.proofs.courier.Courier.last.Goals as goal

pub returns-in_err-prepare_last_each-clause-err : goal.returns-in_err-prepare_last_each-clause-err
returns-in_err-prepare_last_each-clause-err c =
    let s = c.self.inside in
    let p = c.prepare_last_each in
    let same = lines_same s.lanes.items p.new.lanes.items p.ensures.count p.ensures.same in
    let view : Carrying → Carrying = λ k. k in
    on_err _ ((λ i. record { lines = same i; posted = s.posted; first = s.first; stage = s.stage }) ∙ c.self.view_is)

pub returns-clause-passes : goal.returns-clause-passes
returns-clause-passes c =
    settled_passes c.self.inside.lanes.items c.prepare_last_each.new.lanes.items c.settle_each.new.lanes.items
    c.prepare_last_each.ensures.count c.settle_each.ensures.count c.prepare_last_each.ensures.same c.settle_each.ensures.each
    ∙ ap passes_of c.self.view_is

pub returns-clause-plan : goal.returns-clause-plan
returns-clause-plan c =
    let s = c.self.inside in
    let p = c.prepare_last_each in
    let q = c.settle_each in
    let was = was_open s.lanes.items s.posted s.first s.number s.stage _ c.self.view_is c.requires.open c.self.invariant.0 in
    follows_plan q.new.lanes.items s.posted s.first s.number _
    (ends s.lanes.items p.new.lanes.items q.new.lanes.items s.posted s.first s.number was p.ensures.count q.ensures.count
    c.in_ok-prepare_last_each.ensures.ready q.ensures.each)
