-- A row that isn't entered among the others yet, and a removal that isn't listed yet.
use Rattle.std.specs.Prelude.{◌≡◌, ◌<◌, ◌+◌, ◌^◌, ℕ, List, bytes_eq, if◌then◌else◌, ⊤}
use Rattle.std.specs.Prelude.{Option, Some, None, IfSome}
use Rattle.gr_slots.specs.declared.slot.Slot.{Slot}
use Rattle.gr_slots.specs.Slots.{Entries, slot_at, with_slot, tombstones}
use Rattle.gr_slots.specs.Removals.{Moments, AreIndexed}

abbrev pub Row : Type 0
Row = List ℕ × Slot

-- the rows with the late one, if there is one, in order
abbrev pub with_late : Option Row → Entries → Entries
with_late None rows = rows
with_late (Some row) rows = with_slot row.0 row.1 rows

-- the late row, where it is that of the key
abbrev pub late_at : List ℕ → Option Row → Option Row
late_at key None = None
late_at key (Some row) = if bytes_eq row.0 key then Some row else None

-- The late key has no other row.
abbrev pub IsApart : Option Row → Entries → Type 0
IsApart late rows = IfSome late (λ row. slot_at row.0 rows ≡ None)

-- Where one slot more may come in, nothing waits, and one removal more can be counted.
abbrev pub IsReady : Option ℕ → Option Row → Option (List ℕ) → ℕ → Type 0
IsReady None late unlisted count = ⊤
IsReady (Some at) late unlisted count = (late ≡ None) × (unlisted ≡ None) × (count + 1 < 2 ^ 64)

-- the late row, the removals and their number, as they are tied to the other rows
pub record AreKept (rows : Entries) (late : Option Row) (unlisted : Option (List ℕ)) (removals : Moments) (count : ℕ)
    (room : Option ℕ) : Type 0 where
  pub indexed : AreIndexed unlisted rows removals
  pub apart : IsApart late rows
  pub counted : count ≡ tombstones (with_late late rows)
  pub ready : IsReady room late unlisted count
