-- A reader or a writer of std, with a count of its faults.
use Rattle.std.specs.Prelude.{ℕ}

pub record Edge (T : Type 0) : Type 0 where
  pub inner : T
  pub faults : ℕ
