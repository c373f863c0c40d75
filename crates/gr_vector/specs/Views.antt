-- The ids that a vector stands for, by the numbers of each member.
use Rattle.std.specs.Prelude.{◌≡◌, ◌<◌, ◌≤◌, ℕ, zero, suc, List, [], ◌∷◌, ◌++◌, Bool, length, slice_index_or, if◌then◌else◌}
use Rattle.gr_vector.specs.declared.block.Block.{Block}
use Rattle.gr_vector.specs.Blocks.{Numbers, is_noted, holds}
use Rattle.gr_vector.specs.Ids.{Id, Ids}

-- the numbers up to one that are held, the greatest first
abbrev pub held_upto : ℕ → List Block → List ℕ
held_upto zero blocks = []
held_upto (suc n) blocks = if is_noted (suc n) blocks then suc n ∷ held_upto n blocks else held_upto n blocks

abbrev pub ids_of : ℕ → List ℕ → List Id
ids_of member [] = []
ids_of member (v ∷ rest) = record { member = member; rv = v } ∷ ids_of member rest

-- the ids of the members from one on
abbrev pub ids_from : ℕ → List Numbers → List Id
ids_from member [] = []
ids_from member (numbers ∷ rest) = ids_of member (held_upto numbers.top numbers.blocks) ++ ids_from (suc member) rest

abbrev pub view_of : List Numbers → ℕ → Ids
view_of members spare = record { ids = ids_from 1 members; spare = spare }

-- each of eight members has so much room, which is for one block or for none
pub record HaveRoom (members : List Numbers) (spare : ℕ) : Type 0 where
  pub eight : length members ≡ 8
  pub most : spare ≤ 1
  pub room : (k : ℕ) (d : Numbers) → k < 8 → spare ≤ (slice_index_or members k d).spare

-- whether the member at a place has a number
abbrev pub is_held : ℕ → ℕ → List Numbers → Bool
is_held place v members = holds v (slice_index_or members place (record { blocks = []; top = 0; spare = 0 }))
