use Rattle.std.proofs.Common.{◌≡◌, ◌<◌, ◌≤◌, ℕ, [], get_or}
use Rattle.std.specs.Prelude.{vec_len, vec_capacity}
use Rattle.std.specs.Global.{Vec}
use Rattle.gr_member.specs.Seats.{Place}
use Rattle.gr_member.proofs.dealing.empty_passes.Given as goal

abbrev pub invariant-loop-k : goal.invariant-loop-k
invariant-loop-k l = record {
  held : l.passes ≤ vec_capacity l.made;
  count : vec_len l.made ≡ l._k;
  none : (k : ℕ) (p : Vec Place) → k < l._k → (get_or l.made.items k p).items ≡ [];
  room : (k : ℕ) (p : Vec Place) → k < l._k → l.shards ≤ vec_capacity (get_or l.made.items k p);
}
