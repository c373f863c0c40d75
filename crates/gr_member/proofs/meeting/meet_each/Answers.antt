use Rattle.std.proofs.Common.{◌≡◌, ◌<◌, length, arith}
use Rattle.gr_member.proofs.Going.{met_more, met_all}
use Rattle.gr_member.proofs.meeting.meet_each.Goals as goal

pub loop-k-preserved : goal.loop-k-preserved
loop-k-preserved c =
    let ok = c.pop.new.self.ok in
    let at = c.len-at.ensures in
    let popped = c.in-Some.ensures.len in
    let left = c.loop-k.invariant.left in
    let test = c.loop-k-test.true in
    let many = c.requires.its.many in
    let short : length c.pop.new.self.items ≡ c.len-at.result = omega arith in
    let below : c.len-at.result < length c.args.into.now.items = omega arith in
    record {
      left = omega arith;
      met = met_more c.args.into.now.items c.args.from.items c.loop-k.into.items c.loop-k.rest.items c.pop.new.self.items c.len-at.result
          c.index_mut.result.now c.meet.new.self c.in-Some.other c.in-Some.ensures.items short below c.loop-k.invariant.met
          c.index_mut.ensures.value
          c.meet.ensures;
    }

pub returns : goal.returns
returns c =
    met_all c.args.into.now.items c.args.from.items c.loop-k.into.items c.loop-k.rest.items c.loop-k.invariant.met
    (omega (arith, c.loop-k.rest.ok, c.loop-k.invariant.left, c.loop-k-test.false))
