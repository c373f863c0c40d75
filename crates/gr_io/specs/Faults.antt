-- Counts of faults.
use Rattle.std.specs.Prelude.{ℕ, Result, Ok, Err}
use Rattle.gr_value.specs.Counts.{next_of}

-- the count after a call with this answer, where each failed call counts
abbrev pub faults_after : {T E : Type 0} → ℕ → Result T E → ℕ
faults_after faults (Ok _) = faults
faults_after faults (Err _) = next_of faults
