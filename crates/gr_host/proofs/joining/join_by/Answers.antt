use Rattle.std.proofs.Common.{◌≡◌, ◌==◌, ℕ, ◌-◌, ◌<◌, length, get_or, set, sym, ap, ◌∙◌, subst, arith}
use Rattle.gr_member.specs.declared.plan.Plan.{Plan}
use Rattle.gr_world.specs.Courses.{what_from}
use Rattle.gr_host.specs.Houses.{IsOther}
use Rattle.gr_host.specs.Joins.{JoinedWhere, Receives}
use Rattle.gr_host.proofs.Gifts.{fits_other, given_by, joined_gift, joined_self, just}
use Rattle.gr_host.proofs.Staying.{at_set, pass_long, plan_at}
use Rattle.gr_host.proofs.joining.join_by.Goals as goal

pub returns-then-giver-plan-clause-joined : goal.returns-then-giver-plan-clause-joined
returns-then-giver-plan-clause-joined g c =
    joined_self c.args.plan c.args.from c.args.giver c.args.shard c.args.pass.now c.args.visits.now c.requires.from c.if-giver-plan.true

pub returns-in_err-gift-clause-visits : goal.returns-in_err-gift-clause-visits
returns-in_err-gift-clause-visits g c =
    let lent = get_or c.args.visits.now c.from-at.result c.index-visits-at.result in
    at_set c.args.visits.now c.from-at.result lent c.give.new.pass
    (let many = c.requires.visits.many in let all = c.requires.members.many in let place = c.from-at.ensures in omega arith)
    (ap (get_or c.args.visits.now c.from-at.result) c.index-visits-at.is) c.give.ensures.stays

pub returns-in_err-receive-clause-visits : goal.returns-in_err-receive-clause-visits
returns-in_err-receive-clause-visits g c =
    let lent = get_or c.args.visits.now c.from-at.result c.index-visits-at.result in
    at_set c.args.visits.now c.from-at.result lent c.give.new.pass
    (let many = c.requires.visits.many in let all = c.requires.members.many in let place = c.from-at.ensures in omega arith)
    (ap (get_or c.args.visits.now c.from-at.result) c.index-visits-at.is) c.give.ensures.stays

pub returns-clause-visits : goal.returns-clause-visits
returns-clause-visits g c =
    let lent = get_or c.args.visits.now c.from-at.result c.index-visits-at.result in
    at_set c.args.visits.now c.from-at.result lent c.give.new.pass
    (let many = c.requires.visits.many in let all = c.requires.members.many in let place = c.from-at.ensures in omega arith)
    (ap (get_or c.args.visits.now c.from-at.result) c.index-visits-at.is) c.give.ensures.stays

pub receive-requires-clause-gift : goal.receive-requires-clause-gift
receive-requires-clause-gift g c κs within =
    let plan = c.args.plan in
    let there = plan_at c.args.plan c.args.members.now c.from-at.result c.args.giver c.index-members-at.result c.requires.members
    c.requires.giver.0 c.requires.giver.1 c.from-at.ensures c.index-members-at.is in
    let here = plan_at c.args.plan c.args.members.now c.from-own.result plan.member c.index-members-own.result c.requires.members
    c.requires.plan.some_member c.requires.plan.stated c.from-own.ensures c.index-members-own.is in
    let done = c.in_ok-gift.ensures.done in
    fits_other c.index-members-at.result.plan c.index-members-own.result.plan c.args.shard c.in_ok-gift.gift
    (ap (λ (x : Plan). x.shards) there ∙ sym (ap (λ (x : Plan). x.shards) here)) (done.turned done.after).fits

pub returns-clause-joined : goal.returns-clause-joined
returns-clause-joined g c =
    let plan = c.args.plan in
    let other : IsOther c.args.plan c.args.giver =
    record { some = c.requires.giver.0; stated = c.requires.giver.1; other = c.if-giver-plan.false } in
    let there = plan_at c.args.plan c.args.members.now c.from-at.result c.args.giver c.index-members-at.result c.requires.members
    c.requires.giver.0 c.requires.giver.1 c.from-at.ensures c.index-members-at.is in
    let here = plan_at c.args.plan c.args.members.now c.from-own.result plan.member c.index-members-own.result c.requires.members
    c.requires.plan.some_member c.requires.plan.stated c.from-own.ensures c.index-members-own.is in
    let lent = get_or c.args.visits.now c.from-at.result c.index-visits-at.result in
    let place : c.from-at.result ≡ c.args.giver - 1 = c.from-at.ensures in
    let less : c.args.giver - 1 < length c.args.visits.now =
    (let many = c.requires.visits.many in let all = c.requires.members.many in omega arith) in
    subst (λ (n : ℕ). JoinedWhere (just c.args.giver c.args.shard) c.args.plan c.args.from c.args.pass.now c.receive.new.pass
    c.args.visits.now (set c.args.visits.now n c.give.new.pass)) (sym place)
    (joined_gift c.args.plan c.args.from c.args.giver c.args.shard c.in_ok-gift.gift c.args.pass.now c.receive.new.pass
    c.args.visits.now lent c.give.new.pass c.requires.plan.some_member other c.requires.shard
    (pass_long c.args.plan c.args.members.now c.args.pass.now c.requires.members c.requires.plan.some_member c.requires.plan.stated
    c.requires.pass)
    less
    (subst (λ (n : ℕ). lent ≡ get_or c.args.visits.now n lent) place
    (ap (get_or c.args.visits.now c.from-at.result) c.index-visits-at.is))
    (given_by c.args.plan c.index-members-at.result.plan c.args.giver c.args.shard c.what_given-what.result
    (what_from (c.args.giver == c.args.from)) c.in_ok-gift.gift lent c.give.new.pass there
    c.what_given-what.ensures c.in_ok-gift.ensures.done)
    (subst (λ (n : ℕ). Receives n c.args.shard c.in_ok-gift.gift c.args.pass.now c.receive.new.pass)
    (ap (λ (x : Plan). x.shards) here) c.in_ok-receive.ensures.received)
    c.receive.ensures.stays)
