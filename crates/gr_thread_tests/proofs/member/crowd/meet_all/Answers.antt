use Rattle.gr_thread_tests.proofs.Numbering.{left_met}
use Rattle.gr_thread_tests.proofs.member.crowd.meet_all.Goals as goal

pub loop-slot-preserved : goal.loop-slot-preserved
loop-slot-preserved c =
    left_met (λ slot. slot.pass) c.args.member.now c.loop-slot.left c.pop-in-loop-slot.new.self c.in-Some-pop.slot c.loop-slot.all
    c.meet.new.into c.loop-slot.invariant c.in-Some-pop.ensures.items c.meet.ensures

pub loop-slot-preserved-in-Some-pop : goal.loop-slot-preserved-in-Some-pop
loop-slot-preserved-in-Some-pop c =
    left_met (λ slot. slot.pass) c.args.member.now c.loop-slot.left c.pop-in-loop-slot.new.self c.in-Some-pop.slot c.loop-slot.all
    c.meet.new.into c.loop-slot.invariant c.in-Some-pop.ensures.items c.meet.ensures
