use Rattle.std.specs.Prelude.{vec_len}
use Rattle.gr_thread_tests.proofs.Numbering.{AreLeft}
use Rattle.gr_thread_tests.proofs.member.crowd.meet_all.Given as goal

abbrev pub invariant-loop-slot : goal.invariant-loop-slot
invariant-loop-slot l = AreLeft (λ slot. slot.pass) l.fn.member l.left l.all

abbrev pub decreases-loop-slot : goal.decreases-loop-slot
decreases-loop-slot l = vec_len l.left
