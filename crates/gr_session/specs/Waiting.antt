-- A client's first step waits until its member is ready.
use Rattle.std.specs.Prelude.{◌≡◌, ℕ, ◌≤◌, ◌<◌, true, List, [], length, reverse, slice_index_or}
use Rattle.gr_history.specs.declared.deed.Deed.{Deed}
use Rattle.gr_history.specs.declared.identity.Identity.{Identity}
use Rattle.gr_history.specs.Recipients.{is_ready}
use Rattle.gr_turn.specs.Views.{times}
use Rattle.gr_value.specs.Lists.{StartsWith}
use Rattle.gr_member.specs.declared.plan.Plan.{Plan}
use Rattle.gr_member.specs.Plans.{identity_of}
use Rattle.gr_member.specs.Seats.{Place}

-- What was seen begins with a history that was ready, and what was made stands behind that.
pub record IsReadyFirst (id : Identity) (seen : List Deed) (made : List ℕ) : Type 0 where
  pub past : List Deed
  pub begins : StartsWith seen past
  pub ready : is_ready id (reverse past) ≡ true
  pub later : (place : ℕ) → 0 < times place made → length past ≤ place

-- At each shard nothing was made before the shard was ready.
abbrev pub WaitedFor : Plan → List Place → Type 0
WaitedFor plan pass = (shard : ℕ) (s : Place) → shard < length pass
    → IsReadyFirst (identity_of plan shard) (slice_index_or pass shard s).view.seen (slice_index_or pass shard s).view.made

-- No deed was made at any shard.
abbrev pub HasMadeNothing : List Place → Type 0
HasMadeNothing pass = (shard : ℕ) (s : Place) → shard < length pass → (slice_index_or pass shard s).view.made ≡ []
