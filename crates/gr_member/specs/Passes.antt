-- A member, and what its passes do.
use Rattle.std.specs.Prelude.{◌≡◌, ℕ, ◌-◌, ◌^◌, ◌≤◌, ◌<◌, min, true, false, List, length, reverse, sum_by, slice_index_or, slice_set}
use Rattle.gr_history.specs.declared.deed.Deed.{Deed}
use Rattle.gr_history.specs.declared.deed.Deed.TheVariants.{Swept}
use Rattle.gr_history.specs.Recipients.{is_ready}
use Rattle.gr_turn.specs.Views.{HasAll}
use Rattle.gr_member.specs.declared.lock.ShardLock.{ShardLock}
use Rattle.gr_member.specs.declared.plan.Plan.{Plan}
use Rattle.gr_member.specs.Plans.{identity_of}
use Rattle.gr_member.specs.Replicas.{IsBaseOf}
use Rattle.gr_member.specs.Bases.{IsReadyBy}
use Rattle.gr_member.specs.Seats.{Place, Stays, Looks, LooksUp, Adds, Meets}

-- a member: its plan, and of each shard the lock and the name of its copy
pub record House : Type 0 where
  pub plan : Plan
  pub locks : List ShardLock

-- The seat is one of the lock, and the eye is one of the copy behind it.
pub record IsAt (lock : ShardLock) (s : Place) : Type 0 where
  pub its : s.lock ≡ lock.lock
  pub watched : s.eye.copy ≡ lock.name.copy

-- The seat is one at the shard k.
pub record IsSeatOf (plan : Plan) (k : ℕ) (lock : ShardLock) (s : Place) : Type 0 where
  pub here : IsAt lock s
  pub based : IsBaseOf (identity_of plan k) plan.floor s.view.base

-- The pass is one of this member: it has a seat at each shard.
pub record IsPassOf (house : House) (pass : List Place) : Type 0 where
  pub many : length pass ≡ length house.locks
  pub each : (k : ℕ) (l : ShardLock) (s : Place) → k < length pass
      → IsSeatOf house.plan k (slice_index_or house.locks k l) (slice_index_or pass k s)

-- At each shard the seat is one of the lock there.
pub record AreTheirs (locks : List ShardLock) (pass : List Place) : Type 0 where
  pub many : length pass ≡ length locks
  pub each : (k : ℕ) (l : ShardLock) (s : Place) → k < length pass → IsAt (slice_index_or locks k l) (slice_index_or pass k s)

-- ---- at each shard

pub record AtEach (R : Place → Place → Type 0) (p q : List Place) : Type 0 where
  pub many : length q ≡ length p
  pub each : (k : ℕ) (s : Place) → k < length p → R (slice_index_or p k s) (slice_index_or q k s)

abbrev pub StaysAll : List Place → List Place → Type 0
StaysAll = AtEach Stays

abbrev pub LooksAll : List Place → List Place → Type 0
LooksAll = AtEach Looks

abbrev pub LooksUpAll : List Place → List Place → Type 0
LooksUpAll = AtEach LooksUp

-- At each shard what two seats knew is known.
pub record MeetsAll (p r q : List Place) : Type 0 where
  pub many : length q ≡ length p
  pub each : (k : ℕ) (s t : Place) → k < length p → Meets (slice_index_or p k s) (slice_index_or r k t) (slice_index_or q k s)

-- At each shard the seat has all numbers.
abbrev pub HaveAll : List Place → Type 0
HaveAll p = (k : ℕ) (s : Place) → k < length p → HasAll (slice_index_or p k s).view

-- At each shard one deed was added, of what was told there.
pub record TurnsAll {X : Type 0} (deed : X → Deed) (p : List Place) (told : List X) (q : List Place) : Type 0 where
  pub many : length q ≡ length p
  pub told_each : length told ≡ length p
  pub each : (k : ℕ) (x : X) (s : Place) → k < length p
      → Adds (slice_index_or p k s) (deed (slice_index_or told k x)) (slice_index_or q k s)

-- At the first shards, but not at all, a deed was added each, of what was told there, and at the others none.
pub record TurnsSome {X : Type 0} (deed : X → Deed) (p q : List Place) : Type 0 where
  pub many : length q ≡ length p
  pub told : List X
  pub upto : length told < length p
  pub each : (k : ℕ) (x : X) (s : Place) → k < length told
      → Adds (slice_index_or p k s) (deed (slice_index_or told k x)) (slice_index_or q k s)
  pub others : (k : ℕ) (s : Place) → length told ≤ k → k < length p → Looks (slice_index_or p k s) (slice_index_or q k s)

-- At each shard a sweep was added; so many keys are named in all, or the greatest number of 64 bits where they are more.
pub record SweepsAll (moment count : ℕ) (p q : List Place) : Type 0 where
  pub expired : List (List (List ℕ))
  pub sweeps : TurnsAll (Swept moment) p expired q
  pub counted : count ≡ min (sum_by length expired) (2 ^ 64 - 1)

-- What was seen at each shard is ready.
abbrev pub AreReady : Plan → List Place → Type 0
AreReady plan q = (k : ℕ) (s : Place) → k < length q → is_ready (identity_of plan k) (reverse (slice_index_or q k s).view.seen) ≡ true

-- What was seen at one shard isn't ready, and a turn was won there.
pub record OneWaits (plan : Plan) (p q : List Place) : Type 0 where
  pub shard : ℕ
  pub there : shard < length q
  pub waits : (s : Place) → is_ready (identity_of plan shard) (reverse (slice_index_or q shard s).view.seen) ≡ false
  pub won : (s : Place) → (slice_index_or p shard s).view.won < (slice_index_or q shard s).view.won

-- the same two where the seats say whose the shards are
abbrev pub AreReadyBy : List Place → Type 0
AreReadyBy q = (k : ℕ) (s : Place) → k < length q → IsReadyBy (slice_index_or q k s).view.base (slice_index_or q k s).view.seen true

pub record OneWaitsBy (p q : List Place) : Type 0 where
  pub shard : ℕ
  pub there : shard < length q
  pub waits : (s : Place) → IsReadyBy (slice_index_or q shard s).view.base (slice_index_or q shard s).view.seen false
  pub won : (s : Place) → (slice_index_or p shard s).view.won < (slice_index_or q shard s).view.won

-- ---- at one shard

-- The turn was at the shard k, and the other seats are as they were.
pub record At (k : ℕ) (R : Place → Place → Type 0) (p q : List Place) : Type 0 where
  pub after : Place
  pub there : k < length p
  pub now : q ≡ slice_set p k after
  pub turned : (s : Place) → R (slice_index_or p k s) after

-- One deed was added at the shard k.
abbrev pub AddsAt : ℕ → List Place → Deed → List Place → Type 0
AddsAt k p deed q = At k (λ s t. Adds s deed t) p q

-- Nothing was added, and the shard k was looked at.
abbrev pub LooksAt : ℕ → List Place → List Place → Type 0
LooksAt k = At k Looks
