-- How a shard knows of removals that aren't stable without a look at them.
use Rattle.std.specs.Prelude.{◌≡◌, ℕ, ◌-◌, ◌≤◌, ◌<◌, List, max, true, false, Some}
use Rattle.gr_stamp.specs.Expiry.{timeout}
use Rattle.gr_stamp.specs.Winner.{is_removal}
use Rattle.gr_vector.specs.Ids.{Id}
use Rattle.gr_history.specs.declared.identity.Identity.{Identity}
use Rattle.gr_history.specs.declared.deed.Deed.{Deed}
use Rattle.gr_history.specs.declared.deed_kind.DeedKind.{DeedKind}
use Rattle.gr_history.specs.declared.deed_kind.DeedKind.TheVariants.{Call, Asked, Taken, Gave, Imaged, Reported, Heard, Swept}
use Rattle.gr_history.specs.Deeds.{kind_of_deed}
use Rattle.gr_history.specs.Clock.{clock, since}
use Rattle.gr_history.specs.Stable.{is_stable}
use Rattle.gr_history.specs.Standing.{standing}
use Rattle.gr_slots.specs.declared.slot.Slot.{Slot}
use Rattle.gr_shard.specs.Entries.{slot_of}

-- the id of the change that a slot holds
abbrev pub id_in : Slot → Id
id_in slot = record { member = slot.stamp.member; rv = slot.stamp.rv }

-- No removal that came in before this moment, which isn't ahead of the clock, is stable.
pub record IsLooked (id : Identity) (looked : ℕ) (past : List Deed) : Type 0 where
  pub passed : looked ≤ clock past
  pub unstable : (key : List ℕ) (slot : Slot) → slot_of (standing key past) (since key past) ≡ Some slot → is_removal slot.kind ≡ true
      → slot.taken_at < looked → is_stable id (id_in slot) past ≡ false

-- Such a moment once a deed was done, at this clock, where there was one before. What comes from others may make each removal
-- stable, and behind a sweep none that has timed out is.
abbrev pub looked_behind : DeedKind → ℕ → ℕ → ℕ
looked_behind Call clock looked = looked
looked_behind Asked clock looked = looked
looked_behind Taken clock looked = 0
looked_behind Gave clock looked = 0
looked_behind Imaged clock looked = 0
looked_behind Reported clock looked = looked
looked_behind Heard clock looked = 0
looked_behind Swept clock looked = max looked (clock - (timeout - 1))

abbrev pub looked_after : Deed → ℕ → ℕ → ℕ
looked_after deed clock looked = looked_behind (kind_of_deed deed) clock looked
