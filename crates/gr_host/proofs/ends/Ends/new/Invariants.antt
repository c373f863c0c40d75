use Rattle.std.proofs.Common.{◌≡◌, ◌≤◌, ℕ, false, Bool, ◌<◌, length, get_or}
use Rattle.std.specs.Prelude.{vec_capacity}
use Rattle.gr_host.proofs.ends.Ends.new.Given as goal

abbrev pub invariant-loop-k : goal.invariant-loop-k
invariant-loop-k l = record {
  many : length l.ended.items ≡ l._k;
  none : (k : ℕ) (b : Bool) → k < l._k → get_or l.ended.items k b ≡ false;
  room : l.senders ≤ vec_capacity l.ended;
}
