-- Where bytes stand: near, or far in something that has bytes.
use Rattle.std.specs.Prelude.{ℕ, ◌≤◌, List, length, ⊤}
use Rattle.gr_value.specs.declared.near.Held.{Held}
use Rattle.gr_value.specs.declared.near.Held.TheVariants.{Near, Far}

abbrev pub held_bytes : {A : Type 0} → (A → List ℕ) → Held A → List ℕ
held_bytes bytes_of (Near bytes) = bytes
held_bytes bytes_of (Far shared) = bytes_of shared.value

-- What stands far has 14 bytes at least.
abbrev pub IsHeld : {A : Type 0} → (A → List ℕ) → Held A → Type 0
IsHeld bytes_of (Near bytes) = ⊤
IsHeld bytes_of (Far shared) = 14 ≤ length (bytes_of shared.value)
