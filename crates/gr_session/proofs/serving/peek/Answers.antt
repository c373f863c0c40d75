use Rattle.std.proofs.Common.{subst, sym}
use Rattle.gr_member.specs.declared.plan.Plan.{Plan}
use Rattle.gr_session.specs.Steps.{LooksBehindAt}
use Rattle.gr_session.proofs.Making.{serves_peek, still_stays}
use Rattle.gr_session.proofs.serving.peek.Goals as goal

pub returns-in_err-seen-clause-stays : goal.returns-in_err-seen-clause-stays
returns-in_err-seen-clause-stays g c = still_stays c.args.pass.now c.look.new.pass c.look.ensures.still

pub returns-clause-stays : goal.returns-clause-stays
returns-clause-stays g c = still_stays c.args.pass.now c.look.new.pass c.look.ensures.still

pub returns-clause-served : goal.returns-clause-served
returns-clause-served g c = λ posted.
    let desk = c.args.desk.now in
    let seen = c.in_ok-seen.seen in
    serves_peek desk.client desk.plan.shards c.args.seq c.args.key.now c.in_ok-seen.seen c.args.pass.now c.look.new.pass posted
    c.look.ensures.still
    (subst (λ (p : Plan). LooksBehindAt p.shards (record { key = c.args.key.now; value = seen.value; at = seen.at }) c.args.pass.now
    c.look.new.pass) (sym c.requires.plan) c.in_ok-seen.ensures.behind)
