-- What a call did to a source or a sink.
use Rattle.std.specs.Prelude.{◌≡◌, ◌⊎◌, ◌≤◌, ℕ, Option, List, length}
use Rattle.std.specs.Io.KnownBytes.{IsAtEnd, Appends, Consumes}
use Rattle.gr_io.specs.Ends.{AppendsPart, TakesAtMost}
use Rattle.gr_value.specs.Counts.{Rose}

-- A source or a sink, before and after a call: its bytes, where it tells them, and its count of faults.
pub record Stream : Type 0 where
  pub bytes_before : Option (List ℕ)
  pub bytes_after : Option (List ℕ)
  pub faults_before : ℕ
  pub faults_after : ℕ

abbrev pub stream : Option (List ℕ) → Option (List ℕ) → ℕ → ℕ → Stream
stream before after had has = record { bytes_before = before; bytes_after = after; faults_before = had; faults_after = has }

-- Nothing happened to it.
pub record IsUntouched (stream : Stream) : Type 0 where
  pub bytes : stream.bytes_after ≡ stream.bytes_before
  pub faults : stream.faults_after ≡ stream.faults_before

-- A fault was counted.
abbrev pub Counted : Stream → Type 0
Counted stream = Rose stream.faults_before stream.faults_after

-- The text is all that the source had, and has so many bytes at most.
pub record IsAllOf (most : ℕ) (source : Stream) (text : List ℕ) : Type 0 where
  pub taken : Consumes source.bytes_before source.bytes_after text
  pub ended : IsAtEnd source.bytes_after
  pub fits : length text ≤ most

-- So many bytes at most were taken of the source.
abbrev pub TookAtMost : ℕ → Stream → Type 0
TookAtMost most source = TakesAtMost most source.bytes_before source.bytes_after

-- The text was written, or a part of it, where a fault was counted.
abbrev pub IsPut : Stream → List ℕ → Type 0
IsPut sink text = Appends sink.bytes_before sink.bytes_after text
    ⊎ (AppendsPart sink.bytes_before sink.bytes_after text × Counted sink)
