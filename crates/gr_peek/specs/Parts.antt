-- Entries in parts: each key has its own, by its number.
use Rattle.std.specs.Prelude.{◌≡◌, ℕ, ◌%◌, List, length, slice_index_or, slice_set, Option}
use Rattle.std.specs.FinMap as finite
use Rattle.gr_value.specs.KeyHash.{hash_of}
use Rattle.gr_by_key.specs.Maps.{ByKey, with_value}

abbrev pub place_of : List ℕ → ℕ
place_of key = hash_of key % 64

-- the part where a key would be
abbrev pub part_of : {V : Type 0} → List ℕ → List (ByKey V) → ByKey V
part_of key parts = slice_index_or parts (place_of key) finite.empty

-- what stands under a key
abbrev pub found_in : {V : Type 0} → List (ByKey V) → List ℕ → Option V
found_in parts key = finite.get (part_of key parts) key

-- with this at a key, or nothing
abbrev pub with_found : {V : Type 0} → List ℕ → Option V → List (ByKey V) → List (ByKey V)
with_found key value parts = slice_set parts (place_of key) (with_value key value (part_of key parts))

-- the same stands under each key of the parts as of the entries
abbrev pub AreOf : {V : Type 0} → ByKey V → List (ByKey V) → Type 0
AreOf entries parts = (length parts ≡ 64) × ((key : List ℕ) → found_in parts key ≡ finite.get entries key)
