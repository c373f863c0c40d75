use Rattle.gr_member.proofs.Dealt.{all_theirs_last}
use Rattle.gr_member.proofs.Passing.{theirs_meet}
use Rattle.gr_member.proofs.ending.undo.Goals as goal

pub loop-from-preserved : goal.loop-from-preserved
loop-from-preserved g c = record {
  one = theirs_meet c.args.locks.items c.loop-from.into.items c.in-Some-pop.from.items c.meet_each.new.into.items c.loop-from.invariant.one
      c.meet_each.ensures;
  rest = all_theirs_last c.args.locks.items c.loop-from.passes.items c.pop-in-loop-from.new.self.items c.in-Some-pop.from
      c.loop-from.invariant.rest
      c.in-Some-pop.ensures.items;
}
