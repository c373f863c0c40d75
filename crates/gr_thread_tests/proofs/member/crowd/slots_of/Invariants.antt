use Rattle.std.proofs.Common.{◌≡◌, ◌+◌, ◌≤◌, length}
use Rattle.std.specs.Prelude.{vec_len, vec_capacity}
use Rattle.gr_thread_tests.proofs.Numbering.{AreOwn, AreOfSlots}
use Rattle.gr_thread_tests.proofs.member.crowd.slots_of.Given as goal

abbrev pub invariant-loop-k : goal.invariant-loop-k
invariant-loop-k l = record {
  held : 8 ≤ vec_capacity l.slots;
  count : vec_len l.slots ≡ l._k;
  few : l._k + length l.left ≡ 8;
  own : AreOwn l.fn.member l.left;
  each : AreOfSlots (λ slot. slot.pass) l.fn.member l.slots.items l._k;
}
