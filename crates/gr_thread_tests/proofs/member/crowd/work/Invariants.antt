use Rattle.gr_thread_tests.specs.Numbers.{IsOfSlot}
use Rattle.gr_thread_tests.proofs.member.crowd.work.Given as goal

abbrev pub invariant-loop-step : goal.invariant-loop-step
invariant-loop-step g l = IsOfSlot l.fn.member l.fn.client l.slot.pass
