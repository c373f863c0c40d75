use Rattle.gr_member.proofs.Passing.{pass_stays}
use Rattle.gr_host.proofs.Adding.{takes_more}
use Rattle.gr_host.proofs.Staying.{all_trans}
use Rattle.gr_host.proofs.joining.take_each.Goals as goal

pub take_in-requires-after_bounds : goal.take_in-requires-after_bounds
take_in-requires-after_bounds g c κs within =
    pass_stays c.args.member.now c.args.pass.now c.loop-change.pass c.requires c.loop-change.invariant.stays

pub loop-change-preserved : goal.loop-change-preserved
loop-change-preserved g c = record {
  stays = all_trans c.args.pass.now c.loop-change.pass c.take_in.new.pass c.loop-change.invariant.stays c.take_in.ensures.stays;
  takes = takes_more c.args.member.now.plan.shards c.as_slice-change-items.result.now c.loop-change.change-index c.change-item.result
      c.in_ok-_verdict._verdict c.args.pass.now c.loop-change.pass c.take_in.new.pass c.loop-change-test.true c.change-item.is
      c.loop-change.invariant.takes c.in_ok-_verdict.ensures.done c.take_in.ensures.stays;
}

pub returns-in_err-_verdict-clause-stays : goal.returns-in_err-_verdict-clause-stays
returns-in_err-_verdict-clause-stays g c =
    all_trans c.args.pass.now c.loop-change.pass c.take_in.new.pass c.loop-change.invariant.stays c.take_in.ensures.stays
