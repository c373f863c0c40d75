-- What the open queries are told of what comes in at a shard.
use Rattle.std.specs.Prelude.{◌≡◌, ℕ, List, [], ◌∷◌, Bool, true, false, not, map, filter, Option, Some, None, option_and_then}
use Rattle.std.specs.List.{fold}
use Rattle.std.specs.Map.{keys_of}
use Rattle.gr_value.specs.declared.value.Field.{Field}
use Rattle.gr_stamp.specs.declared.change.Change.{Change}
use Rattle.gr_stamp.specs.Winner.{is_removal, put_value}
use Rattle.gr_oql.specs.declared.event.Turned.{Turned}
use Rattle.gr_cq.specs.Entries.{Entry, Queries, noted}
use Rattle.gr_cq.specs.Foresight.{Foresight, IsMadeFor, changed}
use Rattle.gr_history.specs.Clock.{is_same_stamp}
use Rattle.gr_history.specs.Regions.{with_key}
use Rattle.gr_slots.specs.declared.slot.Slot.{Slot}
use Rattle.gr_slots.specs.Slots.{Entries, slot_at}

-- the value of a slot, where a put stands there
abbrev pub slot_value : Option Slot → Option (List Field)
slot_value slot = option_and_then (λ s. put_value s.kind) slot

-- whether the key of a slot is there, with a value or without
abbrev pub slot_there : Option Slot → Bool
slot_there None = false
slot_there (Some slot) = not (is_removal slot.kind)

-- A change that comes in turns its key, over what stands there.
abbrev pub turned_by_change : Entries → Option Change → List Turned
turned_by_change slots None = []
turned_by_change slots (Some change) = record {
  key = change.key;
  old = slot_value (slot_at change.key slots);
  new = put_value change.kind;
  had = slot_there (slot_at change.key slots);
  has = not (is_removal change.kind);
} ∷ []

-- whether another change stands, told by its stamp
abbrev pub is_other_slot : Option Slot → Option Slot → Bool
is_other_slot None None = false
is_other_slot None (Some new) = true
is_other_slot (Some old) None = true
is_other_slot (Some old) (Some new) = not (is_same_stamp old.stamp new.stamp)

-- the keys with those of slots, in order and each once
abbrev pub with_keys : List (List ℕ) → Entries → List (List ℕ)
with_keys keys slots = fold (λ more key. with_key key more) keys (keys_of slots)

abbrev pub turned_slot : Entries → Entries → List ℕ → Turned
turned_slot old new key = record {
  key = key;
  old = slot_value (slot_at key old);
  new = slot_value (slot_at key new);
  had = slot_there (slot_at key old);
  has = slot_there (slot_at key new);
}

-- the keys at which other changes stand than before, with their values before and behind, in order
abbrev pub turned_between : Entries → Entries → List Turned
turned_between old new =
    map (turned_slot old new)
    (filter (λ key. is_other_slot (slot_at key old) (slot_at key new)) (with_keys (with_keys [] old) new))

-- What was foreseen of turned keys was made for these queries as they are; nothing is where they are told nothing.
abbrev pub IsForeseen : List Turned → Queries → Option Foresight → Type 0
IsForeseen turned queries None = noted turned queries.entries ≡ queries.entries
IsForeseen turned queries (Some foreseen) =
    IsMadeFor queries foreseen × (changed foreseen queries.entries ≡ noted turned queries.entries)

abbrev pub IsReady : Queries → Option Foresight → Type 0
IsReady queries None = Unit {0}
IsReady queries (Some foreseen) = IsMadeFor queries foreseen

-- the queries once they are told what was foreseen
abbrev pub told_of : Option Foresight → List Entry → List Entry
told_of None entries = entries
told_of (Some foreseen) entries = changed foreseen entries
