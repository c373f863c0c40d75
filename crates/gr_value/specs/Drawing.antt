-- Numbers that are drawn, each from the one before.
use Rattle.std.specs.Prelude.{ℕ, ◌*◌, ◌%◌}

-- the number that is drawn behind this one
abbrev pub drawn : ℕ → ℕ
drawn x = x * 48271 % 2147483647
