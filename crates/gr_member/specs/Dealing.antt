-- Passes while their seats are dealt.
use Rattle.std.specs.Prelude.{◌≡◌, ℕ, ◌≤◌, ◌<◌, List, [], ◌∷◌, ◌++◌, length, slice_index_or, vec_len, vec_capacity}
use Rattle.std.specs.Global.{Vec}
use Rattle.gr_history.specs.declared.deed.Deed.{Deed}
use Rattle.gr_turn.specs.Views.{Seated}
use Rattle.gr_member.specs.declared.lock.ShardLock.{ShardLock}
use Rattle.gr_member.specs.declared.replica.Origin.{Origin}
use Rattle.gr_member.specs.Replicas.{Watched, IsWatchOf}
use Rattle.gr_member.specs.Seats.{Place, placed}
use Rattle.gr_member.specs.Passes.{AreTheirs}

-- no pass has a seat
abbrev pub HaveNoSeats : List (Vec Place) → Type 0
HaveNoSeats made = (k : ℕ) (p : Vec Place) → k < length made → vec_len (slice_index_or made k p) ≡ 0

-- So many passes of no shard, with room for so many.
pub record AreEmpty (passes shards : ℕ) (made : List (Vec Place)) : Type 0 where
  pub many : length made ≡ passes
  pub none : (k : ℕ) (p : Vec Place) → k < passes → (slice_index_or made k p).items ≡ []
  pub room : (k : ℕ) (p : Vec Place) → k < passes → shards ≤ vec_capacity (slice_index_or made k p)

-- each has room for one seat more
abbrev pub HaveRoom : List (Vec Place) → Type 0
HaveRoom made = (k : ℕ) (p : Vec Place) → k < length made → vec_len (slice_index_or made k p) < vec_capacity (slice_index_or made k p)

-- each eye is of its seat's copy, and what was noted is what the seat has seen
abbrev pub ArePairs : List (Seated Deed Origin) → List Watched → Type 0
ArePairs seats watches = (k : ℕ) (s : Seated Deed Origin) (w : Watched) → k < length seats
    → IsWatchOf (slice_index_or seats k s).view (slice_index_or watches k w)

-- Each has one seat with its eye more.
pub record HasMore (p : List (Vec Place)) (seats : List (Seated Deed Origin)) (watches : List Watched) (q : List (Vec Place)) : Type 0 where
  pub many : length q ≡ length p
  pub more : (k : ℕ) (x : Vec Place) (s : Seated Deed Origin) (w : Watched) → k < length p
      → (slice_index_or q k x).items
      ≡ (slice_index_or p k x).items ++ placed (slice_index_or seats k s) (slice_index_or watches k w).eye ∷ []
  pub room : (k : ℕ) (x : Vec Place) → k < length p → vec_capacity (slice_index_or q k x) ≡ vec_capacity (slice_index_or p k x)

-- the seats of each pass are of these locks
abbrev pub AreAllTheirs : List ShardLock → List (Vec Place) → Type 0
AreAllTheirs locks made = (k : ℕ) (p : Vec Place) → k < length made → AreTheirs locks (slice_index_or made k p).items
