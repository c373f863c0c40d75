use Rattle.std.proofs.Common.{◌≡◌, ℕ, take}
use Rattle.gr_cq.specs.View.{entries_of, HaveRoom}
use Rattle.gr_cq.proofs.opens.reserve_each.Given as goal

abbrev pub invariant-loop-one : goal.invariant-loop-one
invariant-loop-one l = record {
  entries : entries_of l.all ≡ entries_of l.fn.all;
  kept : (spare : ℕ) → HaveRoom spare l.fn.all → HaveRoom spare l.all;
  room : HaveRoom l.room (take l.one-index l.all);
}
