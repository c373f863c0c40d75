-- What a sweep does to what is kept.
use Rattle.std.specs.Prelude.{ℕ, List, Bool, false, max, Option, Some, None}
use Rattle.std.specs.List.{fold}
use Rattle.gr_oql.specs.declared.event.Turned.{Turned}
use Rattle.gr_stamp.specs.declared.change.Change.{Change}
use Rattle.gr_history.specs.declared.identity.Identity.{Identity}
use Rattle.gr_history.specs.declared.deed.Deed.{Deed}
use Rattle.gr_history.specs.Ids.{id_of}
use Rattle.gr_history.specs.Stable.{is_stable}
use Rattle.gr_slots.specs.Slots.{Entries, slot_at, without}
use Rattle.gr_shard.specs.Entries.{slot_ver}

-- whether the change that stands, if any does, is stable
abbrev pub stands_stable : Identity → List Deed → Option Change → Bool
stands_stable id past None = false
stands_stable id past (Some change) = is_stable id (id_of change) past

-- the slots without those of the keys
abbrev pub without_all : List (List ℕ) → Entries → Entries
without_all keys slots = fold (λ left key. without key left) slots keys

-- the floor, risen to the versions at these keys
abbrev pub risen : Entries → ℕ → List (List ℕ) → ℕ
risen slots floor keys = fold (λ now key. max now (slot_ver (slot_at key slots))) floor keys

-- a key without a value, before and behind
abbrev pub valueless : List ℕ → Turned
valueless key = record { key = key; old = None; new = None; had = false; has = false }
