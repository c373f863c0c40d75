use Rattle.std.proofs.Common.{ℕ, List, ◌<◌, length, refl, sym, ap, subst, arith}
use Rattle.std.proofs.lemmas.Result.{IfOk-weaker}
use Rattle.gr_history.specs.declared.identity.Identity.{Identity}
use Rattle.gr_shard.specs.Prepared.{Belongs}
use Rattle.gr_member.specs.Plans.{identity_of}
use Rattle.gr_member.specs.Seats.{Place, Stays, Looks, Acts}
use Rattle.gr_member.specs.Passes.{House}
use Rattle.gr_member.proofs.Passing.{seat_here, at_turn, at_stays}
use Rattle.gr_member.proofs.Turning.{err_weaker}
use Rattle.gr_member.proofs.member.Member.act.Goals as goal

pub act-requires-clause-here : goal.act-requires-clause-here
act-requires-clause-here g c =
    let long = ap (λ (h : House). length h.locks) c.self.view_is in
    let shards = ap (λ (h : House). h.plan.shards) c.self.view_is in
    let ok = c.self.inside.locks.ok in
    let many = c.self.invariant.0 in
    let at = c.from-at.ensures in
    let there = c.requires.shard in
    let below : c.from-at.result < length c.args.self.now.locks = omega arith in
    let seat = seat_here c.args.self.now c.args.pass.now c.pass.inside.shards.items c.from-at.result c.index_mut.result.now c.requires.pass
    c.pass.view_is below c.index_mut.ensures.value in
    λ _ _ o e. subst (λ (i : Identity). Belongs i (g.T.Task.next c.args.task.now)) (sym (seat o e).0)
    (subst (λ (k : ℕ). Belongs (identity_of c.args.self.now.plan k) (g.T.Task.next c.args.task.now)) (sym at) c.requires.here)

pub returns-clause-stays : goal.returns-clause-stays
returns-clause-stays g c =
    let long = ap (λ (h : House). length h.locks) c.self.view_is in
    let shards = ap (λ (h : House). h.plan.shards) c.self.view_is in
    let same = ap (λ (l : List Place). length l) c.pass.view_is in
    let at = c.from-at.ensures in
    let there = c.requires.shard in
    let below : c.from-at.result < length c.pass.inside.shards.items =
    omega (arith, c.self.inside.locks.ok, c.self.invariant.0, c.requires.pass.many) in
    at_stays Stays (λ s t h. h) c.from-at.result c.args.pass.now _
    (at_turn Stays c.from-at.result c.from-at.result c.args.pass.now c.pass.inside.shards.items c.index_mut.result.now c.act.new.self below
    c.pass.view_is refl c.index_mut.ensures.value c.act.ensures.stays)

pub returns-clause-done : goal.returns-clause-done
returns-clause-done g c =
    let long = ap (λ (h : House). length h.locks) c.self.view_is in
    let shards = ap (λ (h : House). h.plan.shards) c.self.view_is in
    let same = ap (λ (l : List Place). length l) c.pass.view_is in
    let at = c.from-at.ensures in
    let there = c.requires.shard in
    let below : c.from-at.result < length c.pass.inside.shards.items =
    omega (arith, c.self.inside.locks.ok, c.self.invariant.0, c.requires.pass.many) in
    IfOk-weaker c.act.result _ _ (λ answer a. at_turn
    (λ s t. Acts s (g.T.Task.next c.args.task.now) (g.T.Task.came answer) t) c.from-at.result c.args.shard c.args.pass.now
    c.pass.inside.shards.items c.index_mut.result.now c.act.new.self below c.pass.view_is at c.index_mut.ensures.value a)
    c.act.ensures.done

pub returns-clause-refused : goal.returns-clause-refused
returns-clause-refused g c =
    let long = ap (λ (h : House). length h.locks) c.self.view_is in
    let shards = ap (λ (h : House). h.plan.shards) c.self.view_is in
    let same = ap (λ (l : List Place). length l) c.pass.view_is in
    let at = c.from-at.ensures in
    let there = c.requires.shard in
    let below : c.from-at.result < length c.pass.inside.shards.items =
    omega (arith, c.self.inside.locks.ok, c.self.invariant.0, c.requires.pass.many) in
    err_weaker c.act.result _ _ (λ a. at_turn Looks c.from-at.result c.args.shard c.args.pass.now
    c.pass.inside.shards.items c.index_mut.result.now c.act.new.self below c.pass.view_is at c.index_mut.ensures.value a)
    c.act.ensures.refused
