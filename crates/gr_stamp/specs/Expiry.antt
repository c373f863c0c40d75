-- When a removal that stands has timed out.
use Rattle.std.specs.Prelude.{ℕ}

-- how many seconds after it came in a tombstone has timed out
abbrev pub timeout : ℕ
timeout = 600
