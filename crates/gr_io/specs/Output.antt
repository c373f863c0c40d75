-- A sink in memory.
use Rattle.std.specs.Prelude.{◌⊎◌, ◌≤◌, ◌<◌, ℕ, List, Contains, length}
use Rattle.gr_value.specs.Counts.{next_of}

pub record Output : Type 0 where
  -- the bytes that it took
  pub held : List ℕ
  -- how many bytes it has room for in all
  pub room : ℕ
  -- the most that one call moves
  pub piece : ℕ
  -- the numbers of the calls that fail
  pub fails : List ℕ
  -- the number of the last call, and 0 before the first
  pub calls : ℕ
  pub faults : ℕ

-- the next call fails where it is among those that fail, or where a piece with bytes meets no room
abbrev pub Refuses : Output → List ℕ → Type 0
Refuses sink piece = Contains sink.fails (next_of sink.calls) ⊎ ((0 < length piece) × (sink.room ≤ length sink.held))
