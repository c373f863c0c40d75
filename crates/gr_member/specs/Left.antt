-- What a member leaves.
use Rattle.std.specs.Prelude.{◌≡◌, ℕ, ◌<◌, List, [], ◌∷◌, ◌++◌, length, reverse, slice_index_or}
use Rattle.std.specs.List.{AllByRecursion}
use Rattle.gr_history.specs.declared.identity.Identity.{Identity}
use Rattle.gr_history.specs.declared.record.MemberRecord.{MemberRecord}
use Rattle.gr_history.specs.declared.record.ShardRecord.{ShardRecord}
use Rattle.gr_history.specs.Lawful.{IsLawful, IsOfShard}
use Rattle.gr_history.specs.Recipients.{NamesMembers}
use Rattle.gr_history.specs.Regions.{IsRegionOf}
use Rattle.gr_value.specs.Lists.{StartsWith}
use Rattle.gr_turn.specs.Views.{MadeAll}
use Rattle.gr_member.specs.declared.plan.Plan.{Plan}
use Rattle.gr_member.specs.Plans.{identity_of}
use Rattle.gr_member.specs.Replicas.{IsBaseOf}
use Rattle.gr_member.specs.Seats.{Place}

-- What is left of a shard of which the seat tells: its history begins with what was seen, each place of it is one of the seat's own, and
-- it is lawful and of the shard; the region is what stands after it.
pub record IsLeftBy (id : Identity) (opening : ℕ) (s : Place) (left : ShardRecord) : Type 0 where
  pub seen : StartsWith left.history.deeds s.view.seen
  pub made : MadeAll s.view (length left.history.deeds)
  pub lawful : IsLawful id opening (reverse left.history.deeds)
  pub of_shard : IsOfShard id (reverse left.history.deeds)
  pub named : AllByRecursion (NamesMembers id) (reverse left.history.deeds)
  pub region : IsRegionOf opening (reverse left.history.deeds) left.region

-- the same where the seat says whose shard it is
abbrev pub IsEndOf : Place → ShardRecord → Type 0
IsEndOf s left = (id : Identity) (opening : ℕ) → IsBaseOf id opening s.view.base → IsLeftBy id opening s left

pub record AreEndsOf (p : List Place) (left : List ShardRecord) : Type 0 where
  pub many : length left ≡ length p
  pub each : (k : ℕ) (s : Place) (r : ShardRecord) → k < length p → IsEndOf (slice_index_or p k s) (slice_index_or left k r)

-- The record has at each shard what is left of it.
pub record AreLeftBy (plan : Plan) (p : List Place) (left : MemberRecord) : Type 0 where
  pub member : left.member ≡ plan.member
  pub many : length left.shards ≡ length p
  pub each : (k : ℕ) (s : Place) (r : ShardRecord) → k < length p
      → IsLeftBy (identity_of plan k) plan.floor (slice_index_or p k s) (slice_index_or left.shards k r)

-- One record more, of the shard of which the seat tells.
pub record IsOneMore (s : Place) (old new : List ShardRecord) : Type 0 where
  pub record_of : ShardRecord
  pub last : new ≡ old ++ record_of ∷ []
  pub ends : IsEndOf s record_of
