use Rattle.std.proofs.Common.{ap, sym, subst, ◌∙◌}
use Rattle.gr_post.specs.declared.mail.Posting.{Posting}
use Rattle.gr_post.specs.declared.stage.Stage.{Stage}
use Rattle.gr_post.specs.declared.stage.Stage.TheVariants.{Open}
use Rattle.gr_post.specs.Couriers.{Carrying, carrying, FollowsPlan, passes_of}
use Rattle.gr_post.proofs.Carried.{follows_plan, was_open, posts, settled_passes, lines_same, on_err}
use Rattle.gr_post.proofs.courier.Courier.post.Goals as goal

pub returns-in_err-after-clause-err : goal.returns-in_err-after-clause-err
returns-in_err-after-clause-err c =
    let s = c.self.inside in
    let p = c.prepare_each in
    let same = lines_same s.lanes.items p.new.lanes.items p.ensures.count p.ensures.same in
    on_err _ ((λ i. record { lines = same i; posted = s.posted; first = s.first; stage = s.stage }) ∙ c.self.view_is)

pub returns-clause-passes : goal.returns-clause-passes
returns-clause-passes c =
    settled_passes c.self.inside.lanes.items c.prepare_each.new.lanes.items c.settle_each.new.lanes.items
    c.prepare_each.ensures.count c.settle_each.ensures.count c.prepare_each.ensures.same c.settle_each.ensures.each
    ∙ ap passes_of c.self.view_is

pub returns-clause-plan : goal.returns-clause-plan
returns-clause-plan c =
    let s = c.self.inside in
    let p = c.prepare_each in
    let q = c.settle_each in
    let now = q.new.lanes.items in
    let posted = c.push.new.self in
    let one : Posting = record { mail = c.args.mail.now; to = c.args.to } in
    let open_ = ap (λ (k : Carrying). k.stage) c.self.view_is ∙ c.requires.open in
    let was = was_open s.lanes.items s.posted s.first s.number s.stage _ c.self.view_is c.requires.open c.self.invariant.0 in
    subst (λ (t : Stage). FollowsPlan (carrying now posted s.first t)) (sym open_)
    (follows_plan now posted s.first c.in_ok-after.after Open
    (posts s.lanes.items p.new.lanes.items now s.posted posted one s.first s.number c.in_ok-after.after was
    p.ensures.count q.ensures.count
    c.in_ok-after.ensures.number c.in_ok-after.ensures.ready q.ensures.each c.push.ensures))
