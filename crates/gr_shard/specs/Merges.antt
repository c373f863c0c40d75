-- What a merge makes of slots, by an image's rows and the ids that it knows.
use Rattle.std.specs.Prelude.{◌≡◌, ◌≤◌, ℕ, List, [], ◌||◌, is_some, Option, Some, None, if◌then◌else◌}
use Rattle.std.specs.List.{AllByRecursion, fold}
use Rattle.gr_value.specs.Shard.{shard_of}
use Rattle.gr_stamp.specs.declared.change.Change.{Change}
use Rattle.gr_stamp.specs.declared.stamp.TheConstants.{LIMIT}
use Rattle.gr_vector.specs.Ids.{Id, has_id}
use Rattle.gr_history.specs.declared.identity.Identity.{Identity}
use Rattle.gr_history.specs.declared.image.Gift.{Gift}
use Rattle.gr_history.specs.declared.image.Gift.TheVariants as gift
use Rattle.gr_history.specs.declared.image.Image.{Image}
use Rattle.gr_history.specs.declared.verdict.Verdict.{Verdict}
use Rattle.gr_history.specs.declared.verdict.Verdict.TheVariants.{Applied, Discarded, Repeat}
use Rattle.gr_history.specs.Ids.{id_of}
use Rattle.gr_history.specs.Lawful.{AreInOrder}
use Rattle.gr_slots.specs.declared.slot.Slot.{Slot}
use Rattle.gr_slots.specs.Slots.{Entries, slot_at, with_slot}
use Rattle.gr_shard.specs.Entries.{change_of, slot_from, verdict_at}

-- What an image may be that a shard merges: its rows are in order and of this shard's keys, and its floor is in range.
pub record IsImageFor (id : Identity) (image : Image) : Type 0 where
  pub in_order : AreInOrder image.rows
  pub of_shard : AllByRecursion (λ row. shard_of row.key id.shards ≡ id.shard) image.rows
  pub low : image.floor ≤ LIMIT

-- What a shard of this number is given: an image that it may merge, or changes of its keys.
abbrev pub IsGiftFor : Identity → Gift → Type 0
IsGiftFor id (gift.Image image) = IsImageFor id image
IsGiftFor id (gift.Own changes) = AllByRecursion (λ change. shard_of change.key id.shards ≡ id.shard) changes

-- what is left of a row and what stood at its key, by the row's verdict
abbrev pub left_by : Verdict → Change → ℕ → Option Slot → Option Slot
left_by Applied row clock slot = Some (slot_from row clock)
left_by Discarded row clock slot = slot
left_by Repeat row clock slot = slot

-- the same where these ids are known
abbrev pub row_leaves : List Id → ℕ → Change → Option Slot → Option Slot
row_leaves known clock row slot = left_by (verdict_at (has_id (id_of row) known) slot row.stamp) row clock slot

-- the slots with this one at the key, if there is one
abbrev pub with_left : List ℕ → Option Slot → Entries → Entries
with_left key None slots = slots
with_left key (Some slot) slots = with_slot key slot slots

-- what stands at the keys of rows, over these slots
abbrev pub rows_leave : List Id → ℕ → Entries → List Change → Entries
rows_leave known clock slots rows = fold (λ left row. with_left row.key (row_leaves known clock row (slot_at row.key slots)) left) [] rows

-- With one of the slots from before, but where the key has a slot, and where the image knows what stood.
abbrev pub with_unknown : List Id → Entries → List ℕ × Slot → Entries
with_unknown ids left entry = if is_some (slot_at entry.0 left) || has_id (id_of (change_of entry.0 entry.1)) ids
    then left else with_slot entry.0 entry.1 left

-- what stands after an image is merged
abbrev pub merged : List Id → ℕ → Image → Entries → Entries
merged known clock image slots = fold (with_unknown image.vector.ids) (rows_leave known clock slots image.rows) slots
