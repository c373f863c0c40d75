use Rattle.std.proofs.Common.{◌≡◌, ◌+◌, length}
use Rattle.gr_member.proofs.Handing.{Handed}
use Rattle.gr_member.proofs.dealing.deal.Given as goal

abbrev pub invariant-loop-k : goal.invariant-loop-k
invariant-loop-k l = record {
  left : l._k + length l.rest ≡ length l.initial.passes.items;
  handed : Handed l.initial.passes.items l.passes.items l.fn.seats l.rest l.fn.watches.items l.watches.items;
}
