-- Slots by their keys, in order.
use Rattle.std.specs.Prelude.{ℕ, ◌-◌, List, Bool, ◌&&◌, nat_le, filter, count_by, Option, Some, None, if◌then◌else◌}
use Rattle.std.specs.Ordering.{nat_cmp}
use Rattle.std.specs.Cmp.Lexicographic.{slice_cmp}
use Rattle.std.specs.BTreeMap.{insert_entry, is_at}
use Rattle.std.specs.Map.{lookup, remove_entry, keys_of}
use Rattle.gr_stamp.specs.Expiry.{timeout}
use Rattle.gr_stamp.specs.Winner.{is_removal}
use Rattle.gr_slots.specs.declared.slot.Slot.{Slot}

abbrev pub Entries : Type 0
Entries = List (List ℕ × Slot)

-- the slots by their keys, in order, and the moment, if any, at which one slot more may come in without memory
pub record HeldSlots : Type 0 where
  pub entries : Entries
  pub room : Option ℕ

abbrev is_key : List ℕ → List ℕ → Bool
is_key key = is_at (slice_cmp nat_cmp key)

-- the slot of the key
abbrev pub slot_at : List ℕ → Entries → Option Slot
slot_at key slots = lookup (is_key key) slots

-- with this slot at the key, in the order of keys
abbrev pub with_slot : List ℕ → Slot → Entries → Entries
with_slot key slot slots = insert_entry (slice_cmp nat_cmp) slots key slot

-- without the slot of the key
abbrev pub without : List ℕ → Entries → Entries
without key slots = remove_entry (is_key key) slots

-- when what stands came in, where it is a removal
abbrev pub removed_at : Option Slot → Option ℕ
removed_at None = None
removed_at (Some slot) = if is_removal slot.kind then Some slot.taken_at else None

-- whether what came in at a moment, which is no earlier than the first, has timed out by the clock, in seconds
abbrev pub is_late : ℕ → ℕ → ℕ → Bool
is_late first clock taken_at = nat_le first taken_at && nat_le timeout (clock - taken_at)

-- whether a slot is a removal that came in then and has timed out
abbrev pub is_timed_out : ℕ → ℕ → Slot → Bool
is_timed_out first clock slot = is_removal slot.kind && is_late first clock slot.taken_at

-- the keys of the removals that came in at a moment or later and have timed out, in order
abbrev pub timed_out : ℕ → ℕ → Entries → List (List ℕ)
timed_out first clock slots = keys_of (filter (λ entry. is_timed_out first clock entry.1) slots)

-- how many slots are removals
abbrev pub tombstones : Entries → ℕ
tombstones slots = count_by (λ entry. is_removal entry.1.kind) slots
