-- The histories of a record, shard by shard, and the laws that they keep.
use Rattle.std.specs.Prelude.{◌⊎◌, ℕ, zero, suc, ◌<◌, ◌==◌, List, [], ◌∷◌, reverse, map, if◌then◌else◌}
use Rattle.gr_history.specs.declared.deed.Deed.{Deed}
use Rattle.gr_history.specs.declared.record.Record.{Record}
use Rattle.gr_law.specs.Grids.{Grid}
use Rattle.gr_law.specs.Integrity.{IsHeardDeed, IsSound}
use Rattle.gr_law.specs.QueryMaps.{law_queries}
use Rattle.gr_law.specs.Laws.{law_0, law_1, law_2, law_3, same_value, same_entry, law_4, law_5}
use Rattle.gr_script.specs.Rules.{Heading}
use Rattle.gr_world.specs.Departures.{IsClosing}
use Rattle.gr_world.specs.Grids.{grid_from}
use Rattle.gr_world.specs.Records.{MemberHistories, histories_of}

-- the deeds of a shard, of which this many come before it; there are none behind the last shard
abbrev pub deeds_at : ℕ → List (List Deed) → List Deed
deeds_at n [] = []
deeds_at zero (first ∷ rest) = first
deeds_at (suc n) (first ∷ rest) = deeds_at n rest

-- the history of a shard at a member, the newest deed first
abbrev pub history_at : ℕ → List MemberHistories → ℕ → List Deed
history_at shard [] member = []
history_at shard (first ∷ rest) member =
    if first.member == member then reverse (deeds_at shard first.shards) else history_at shard rest member

-- the histories of all members at a shard
abbrev pub grid_of : Heading → ℕ → List MemberHistories → Grid
grid_of heading shard all = grid_from heading (λ member shard. history_at shard all member) shard

-- A report that is heard was made, or it closes one of these members.
abbrev pub AreHeardOrClosing : List ℕ → Grid → List Deed → Type 0
AreHeardOrClosing gone grid [] = Unit {0}
AreHeardOrClosing gone grid (deed ∷ past) = (IsHeardDeed grid deed ⊎ IsClosing gone deed past) × AreHeardOrClosing gone grid past

-- Where these members departed: what was taken in was made, and the laws of records hold of the histories.
pub record IsLawAbiding (gone : List ℕ) (grid : Grid) : Type 0 where
  pub sound : IsSound grid
  pub heard : (member : ℕ) → AreHeardOrClosing gone grid (grid.history member)
  pub reached : law_0 grid
  pub greater : law_1 grid
  pub late : law_2 grid
  pub held : law_3 grid
  pub same : same_value grid
  pub one_entry : same_entry grid
  pub no_removed : law_4 grid
  pub one_history : law_5 grid
  pub queries : law_queries grid

-- So it is at each shard of a record.
abbrev pub KeepsLaws : Heading → List ℕ → Record → Type 0
KeepsLaws heading gone left =
    (shard : ℕ) → shard < heading.shards → IsLawAbiding gone (grid_of heading shard (map histories_of left.members))
