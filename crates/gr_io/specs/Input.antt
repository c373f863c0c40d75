-- A source in memory.
use Rattle.std.specs.Prelude.{ℕ, List}

pub record Input : Type 0 where
  -- the bytes that are left
  pub left : List ℕ
  -- the most that one call moves
  pub piece : ℕ
  -- the numbers of the calls that fail
  pub fails : List ℕ
  -- the number of the last call, and 0 before the first
  pub calls : ℕ
  pub faults : ℕ
