-- How reading and writing of a whole end.
use Rattle.std.specs.Prelude.{◌≡◌, ◌+◌, ◌≤◌, ◌<◌, ℕ, Option, List, length, take, vec_len}
use Rattle.std.specs.Io.KnownBytes.{Appends, Consumes}
use Rattle.gr_io.specs.declared.end.ReadEnd.{ReadEnd}
use Rattle.gr_io.specs.declared.end.ReadEnd.TheVariants.{Fault, TooLarge, Memory}
use Rattle.gr_value.specs.Counts.{Rose}

-- of the bytes that were left, the first so many at most were taken
abbrev pub TakesAtMost : ℕ → Option (List ℕ) → Option (List ℕ) → Type 0
TakesAtMost most old new = (taken : List ℕ) × Consumes old new taken × (length taken ≤ most)

-- what each end of reading says, with the source's bytes and its count of faults, both before and after
abbrev pub EndsFor : ℕ → Option (List ℕ) → Option (List ℕ) → ℕ → ℕ → ReadEnd → Type 0
EndsFor limit old new had has Fault = Rose had has × TakesAtMost limit old new
EndsFor limit old new had has (TooLarge bytes) = Consumes old new bytes.items × (vec_len bytes ≡ limit + 1)
EndsFor limit old new had has Memory = TakesAtMost limit old new

-- a sink took the first of these bytes, and not all of them
abbrev pub AppendsPart : Option (List ℕ) → Option (List ℕ) → List ℕ → Type 0
AppendsPart old new bytes = (n : ℕ) × Appends old new (take n bytes) × (n < length bytes)

-- why one read stopped: a fault that was counted, or want of memory
abbrev pub StopsFor : ℕ → ℕ → ReadEnd → Type 0
StopsFor had has Fault = Rose had has
StopsFor had has (TooLarge bytes) = ⊥
StopsFor had has Memory = Unit {0}
