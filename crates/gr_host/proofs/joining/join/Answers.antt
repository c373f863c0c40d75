use Rattle.std.proofs.Common.{◌-◌, get_or}
use Rattle.gr_member.proofs.Passing.{pass_stays}
use Rattle.gr_host.proofs.Rounds.{shards_all, shards_more, shards_none}
use Rattle.gr_host.proofs.Staying.{all_same, all_trans, at_same, at_trans, pass_long, passes_stay}
use Rattle.gr_host.proofs.joining.join.Goals as goal

pub loop-shard-init : goal.loop-shard-init
loop-shard-init g c = record {
  stays = all_same c.args.pass.now;
  visits = at_same c.args.visits.now;
  joined = shards_none c.args.plan c.args.from c.args.pass.now c.args.visits.now c.requires.from;
}

pub loop-shard-preserved : goal.loop-shard-preserved
loop-shard-preserved g c = record {
  stays = all_trans c.args.pass.now c.loop-shard.pass c.join_at.new.pass c.loop-shard.invariant.stays c.join_at.ensures.stays;
  visits = at_trans c.args.visits.now c.loop-shard.visits c.join_at.new.visits c.loop-shard.invariant.visits c.join_at.ensures.visits;
  joined = shards_more c.args.plan c.args.from c.args.pass.now c.args.visits.now c.requires.from c.loop-shard.shard c.loop-shard.pass
      c.join_at.new.pass c.loop-shard.visits c.join_at.new.visits
      (pass_long c.args.plan c.args.members.now c.args.pass.now c.requires.members c.requires.plan.some_member c.requires.plan.stated
      c.requires.pass)
      c.loop-shard.invariant.joined c.in_ok-join_at.ensures.joined;
}

pub join_at-requires-clause-pass : goal.join_at-requires-clause-pass
join_at-requires-clause-pass g c κs within = λ h.
    pass_stays (get_or c.args.members.now (c.args.plan.member - 1) h) c.args.pass.now c.loop-shard.pass (c.requires.pass h)
    c.loop-shard.invariant.stays

pub join_at-requires-clause-visits : goal.join_at-requires-clause-visits
join_at-requires-clause-visits g c κs within =
    passes_stay c.args.members.now c.args.visits.now c.loop-shard.visits c.requires.visits c.loop-shard.invariant.visits

pub returns-in_err-join_at-clause-stays : goal.returns-in_err-join_at-clause-stays
returns-in_err-join_at-clause-stays g c =
    all_trans c.args.pass.now c.loop-shard.pass c.join_at.new.pass c.loop-shard.invariant.stays c.join_at.ensures.stays

pub returns-in_err-join_at-clause-visits : goal.returns-in_err-join_at-clause-visits
returns-in_err-join_at-clause-visits g c =
    at_trans c.args.visits.now c.loop-shard.visits c.join_at.new.visits c.loop-shard.invariant.visits c.join_at.ensures.visits

pub returns-clause-joined : goal.returns-clause-joined
returns-clause-joined g c =
    shards_all c.args.plan c.args.from c.args.pass.now c.args.visits.now c.requires.from c.loop-shard.shard c.loop-shard.pass
    c.loop-shard.visits c.loop-shard-test.false c.loop-shard.invariant.joined
