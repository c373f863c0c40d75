use Rattle.std.proofs.Common.{ap, ◌∙◌, map}
use Rattle.gr_post.specs.declared.stage.Stage.TheVariants.{Stopped}
use Rattle.gr_post.specs.Lanes.{pass_of}
use Rattle.gr_post.specs.Couriers.{Carrying, passes_of, stopped_line}
use Rattle.gr_post.proofs.Carried.{lines_stopped, passes_same}
use Rattle.gr_post.proofs.courier.Courier.stop.Goals as goal

pub returns-clause-passes : goal.returns-clause-passes
returns-clause-passes c =
    let p = c.stop_each in
    passes_same c.self.inside.lanes.items p.new.lanes.items p.ensures.count (λ k d lt. ap pass_of (p.ensures.each k d lt))
    ∙ ap passes_of c.self.view_is

pub returns-clause-ends : goal.returns-clause-ends
returns-clause-ends c =
    let s = c.self.inside in
    let p = c.stop_each in
    let lines = lines_stopped s.lanes.items p.new.lanes.items p.ensures.count p.ensures.each in
    (λ i. record { lines = lines i; posted = s.posted; first = s.first; stage = Stopped })
    ∙ ap (λ (k : Carrying). record k { lines = map stopped_line k.lines; stage = Stopped }) c.self.view_is
