-- What the parts of a shard stand for.
use Rattle.std.specs.Prelude.{ℕ, List, map, filter, count_by, Bool, true, false, not, if◌then◌else◌, Option, Some, None}
use Rattle.gr_stamp.specs.declared.change.Change.{Change}
use Rattle.gr_stamp.specs.Version.{Version, beats}
use Rattle.gr_vector.specs.Ids.{Id}
use Rattle.gr_vector.specs.Order.{with_id}
use Rattle.gr_history.specs.Ids.{id_of}
use Rattle.gr_stamp.specs.Winner.{is_removal}
use Rattle.gr_history.specs.declared.verdict.Verdict.{Verdict}
use Rattle.gr_history.specs.declared.verdict.Verdict.TheVariants.{Applied, Discarded, Repeat}
use Rattle.gr_slots.specs.declared.slot.Slot.{Slot}
use Rattle.gr_slots.specs.Slots.{Entries, with_slot}

-- the slot of a change that came in at this clock
abbrev pub slot_from : Change → ℕ → Slot
slot_from change clock = record { kind = change.kind; stamp = change.stamp; taken_at = clock }

-- the slot of what stands at a key, if anything does
abbrev pub slot_of : Option Change → ℕ → Option Slot
slot_of None since = None
slot_of (Some change) since = Some (slot_from change since)

-- the slots with a change that came in, if any did
abbrev pub with_change : Option Change → ℕ → Entries → Entries
with_change None clock slots = slots
with_change (Some change) clock slots = with_slot change.key (slot_from change clock) slots

-- what becomes of a change that is known or isn't, over what stands
abbrev pub verdict_at : Bool → Option Slot → Version → Verdict
verdict_at true slot stamp = Repeat
verdict_at false None stamp = Applied
verdict_at false (Some slot) stamp = if beats stamp slot.stamp then Applied else Discarded

-- the change, where it was applied
abbrev pub applied : Verdict → Change → Option Change
applied Applied change = Some change
applied Discarded change = None
applied Repeat change = None

-- the version of a slot, or 0
abbrev pub slot_ver : Option Slot → ℕ
slot_ver None = 0
slot_ver (Some slot) = slot.stamp.ver

-- the change that a slot of this key holds
abbrev pub change_of : List ℕ → Slot → Change
change_of key slot = record { key = key; kind = slot.kind; stamp = slot.stamp }

-- the changes that slots hold
abbrev pub changes_in : Entries → List Change
changes_in slots = map (λ entry. change_of entry.0 entry.1) slots

abbrev pub puts_of : List Change → List Change
puts_of changes = filter (λ change. not (is_removal change.kind)) changes

abbrev pub removals_of : List Change → ℕ
removals_of changes = count_by (λ change. is_removal change.kind) changes

-- the ids with that of a change, if there is one
abbrev pub with_made : Option Change → List Id → List Id
with_made None ids = ids
with_made (Some change) ids = with_id (id_of change) ids
