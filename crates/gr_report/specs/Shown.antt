-- Rows that are lent, as what they show.
use Rattle.std.specs.Prelude.{ℕ, List, map}
use Rattle.std.specs.Borrow.{Bor}

abbrev pub shown : {A : Type 0} → List (List ℕ × Bor A) → List (List ℕ × A)
shown rows = map (λ entry. (entry.0, entry.1.now)) rows
