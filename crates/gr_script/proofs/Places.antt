-- A place that is counted on from another.
use Rattle.std.proofs.Common.{ℕ, ◌+◌, Option, option_map}

-- so many places on
abbrev pub further : ℕ → Option ℕ → Option ℕ
further n place = option_map (λ m. n + m) place
