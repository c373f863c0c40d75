-- A number of 32 bits that differs for most keys.
use Rattle.std.specs.Prelude.{ℕ, zero, suc, ◌+◌, ◌-◌, ◌*◌, ◌/◌, ◌%◌, ◌^◌, List, length, drop, max}
use Rattle.gr_value.specs.KeyFront.{front_of}

-- the last eight bytes as a number, or of a short key what is behind the sixth byte
abbrev pub back_of : List ℕ → ℕ
back_of bytes = front_of (drop (max 6 (length bytes - 8)) bytes)

-- the first so many eights of the bytes as one number of 64 bits
abbrev pub folded : ℕ → List ℕ → ℕ
folded zero bytes = 0
folded (suc count) bytes = (folded count bytes * 14029467366897019727 + front_of (drop (8 * count) bytes)) % 2 ^ 64

-- the upper half of the 64 bits that two products add up to
abbrev pub mixed : ℕ → ℕ → ℕ
mixed front back = (front * 11400714819323198485 + back * 14029467366897019727) % 2 ^ 64 / 2 ^ 32

-- the number of a key, drawn from all its bytes
abbrev pub hash_of : List ℕ → ℕ
hash_of bytes = mixed (folded (max 1 (length bytes / 8)) bytes) (back_of bytes)
