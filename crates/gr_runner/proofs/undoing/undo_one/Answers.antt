use Rattle.gr_member.proofs.Passing.{pass_meets}
use Rattle.gr_runner.proofs.Made.{of_last}
use Rattle.gr_runner.proofs.undoing.undo_one.Goals as goal

pub loop-from-init : goal.loop-from-init
loop-from-init g c =
    let last = of_last c.args.member c.args.passes c.pop.new.self c.in-Some.into c.requires.each c.in-Some.ensures.pass in
    record { one = last.1; rest = last.0 }

pub meet-requires-clause-from : goal.meet-requires-clause-from
meet-requires-clause-from g c =
    (of_last c.args.member c.loop-from.passes c.pop-in-loop-from.new.self c.in-Some-pop.from c.loop-from.invariant.rest
    c.in-Some-pop.ensures.pass).1

pub loop-from-preserved : goal.loop-from-preserved
loop-from-preserved g c = record {
  one = pass_meets c.args.member c.loop-from.into c.in-Some-pop.from c.meet.new.into c.loop-from.invariant.one c.meet.ensures;
  rest = (of_last c.args.member c.loop-from.passes c.pop-in-loop-from.new.self c.in-Some-pop.from c.loop-from.invariant.rest
      c.in-Some-pop.ensures.pass).0;
}
