use Rattle.std.proofs.Common.{ap, sym, ◌∙◌, subst}
use Rattle.gr_post.specs.Couriers.{Line, line_of, FollowsPlan, passes_of}
use Rattle.gr_post.proofs.Carried.{follows_plan, map_twice}
use Rattle.gr_post.proofs.courier.Courier.passes.Goals as goal

pub returns-clause-passes : goal.returns-clause-passes
returns-clause-passes c =
    c.passes_home.ensures ∙ sym (map_twice (λ (l : Line). l.pass) line_of c.self.inside.lanes.items) ∙ ap passes_of c.self.view_is

pub returns-clause-plan : goal.returns-clause-plan
returns-clause-plan c =
    let s = c.self.inside in
    subst FollowsPlan c.self.view_is (follows_plan s.lanes.items s.posted s.first s.number s.stage c.self.invariant.0)
