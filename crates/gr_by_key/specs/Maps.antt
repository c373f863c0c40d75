-- Finite maps from keys.
use Rattle.std.specs.Prelude.{ℕ, List, Option, Some, None, map}
use Rattle.std.specs.Ordering.{nat_cmp}
use Rattle.std.specs.Cmp.Lexicographic.{slice_cmp}
use Rattle.std.specs.FinMap as finite

-- what stands by the bytes of keys
abbrev pub ByKey : Type 0 → Type 0
ByKey V = finite.FinMap (slice_cmp nat_cmp) V

-- the keys, in order
abbrev pub names_in : {V : Type 0} → ByKey V → List (List ℕ)
names_in all = map (λ entry. entry.0) (finite.entries all)

-- with this at a key, or nothing
abbrev pub with_value : {V : Type 0} → List ℕ → Option V → ByKey V → ByKey V
with_value key None all = finite.remove all key
with_value key (Some value) all = finite.insert all key value
