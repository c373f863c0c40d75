use Rattle.std.proofs.Common.{◌-◌, get_or}
use Rattle.gr_member.proofs.Passing.{pass_stays}
use Rattle.gr_host.proofs.Rounds.{givers_all, givers_more, givers_none}
use Rattle.gr_host.proofs.Staying.{all_same, all_trans, at_same, at_trans, pass_long, passes_stay}
use Rattle.gr_host.proofs.joining.join_at.Goals as goal

pub loop-at-init : goal.loop-at-init
loop-at-init g c = record {
  stays = all_same c.args.pass.now;
  visits = at_same c.args.visits.now;
  joined = givers_none c.args.plan c.args.from c.args.shard c.args.pass.now c.args.visits.now c.requires.from;
}

pub loop-at-preserved : goal.loop-at-preserved
loop-at-preserved g c = record {
  stays = all_trans c.args.pass.now c.loop-at.pass c.join_by.new.pass c.loop-at.invariant.stays c.join_by.ensures.stays;
  visits = at_trans c.args.visits.now c.loop-at.visits c.join_by.new.visits c.loop-at.invariant.visits c.join_by.ensures.visits;
  joined = givers_more c.args.plan c.args.from c.args.shard c.args.pass.now c.args.visits.now c.requires.from c.loop-at.at c.loop-at.pass
      c.join_by.new.pass c.loop-at.visits c.join_by.new.visits
      (pass_long c.args.plan c.args.members.now c.args.pass.now c.requires.members c.requires.plan.some_member c.requires.plan.stated
      c.requires.pass)
      c.loop-at.invariant.joined c.in_ok-join_by.ensures.joined;
}

pub join_by-requires-clause-pass : goal.join_by-requires-clause-pass
join_by-requires-clause-pass g c κs within = λ h.
    pass_stays (get_or c.args.members.now (c.args.plan.member - 1) h) c.args.pass.now c.loop-at.pass (c.requires.pass h)
    c.loop-at.invariant.stays

pub join_by-requires-clause-visits : goal.join_by-requires-clause-visits
join_by-requires-clause-visits g c κs within =
    passes_stay c.args.members.now c.args.visits.now c.loop-at.visits c.requires.visits c.loop-at.invariant.visits

pub returns-in_err-join_by-clause-stays : goal.returns-in_err-join_by-clause-stays
returns-in_err-join_by-clause-stays g c =
    all_trans c.args.pass.now c.loop-at.pass c.join_by.new.pass c.loop-at.invariant.stays c.join_by.ensures.stays

pub returns-in_err-join_by-clause-visits : goal.returns-in_err-join_by-clause-visits
returns-in_err-join_by-clause-visits g c =
    at_trans c.args.visits.now c.loop-at.visits c.join_by.new.visits c.loop-at.invariant.visits c.join_by.ensures.visits

pub returns-clause-joined : goal.returns-clause-joined
returns-clause-joined g c =
    givers_all c.args.plan c.args.from c.args.shard c.args.pass.now c.args.visits.now c.requires.from c.loop-at.at c.loop-at.pass
    c.loop-at.visits c.loop-at-test.false c.loop-at.invariant.joined
