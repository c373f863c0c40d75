-- What a member's numbers are kept as: blocks in order, each of which says which numbers are held from its first on.
use Rattle.std.specs.Prelude.{◌≡◌, ◌≤◌, ◌<◌, ℕ, zero, suc, ◌+◌, ◌-◌, List, [], ◌∷◌, Bool, true, false, not, ◌&&◌, nat_lt, nat_le, ◌==◌}
use Rattle.std.specs.Prelude.{min, if◌then◌else◌}
use Rattle.std.specs.Int.{bit_at}
use Rattle.gr_vector.specs.declared.block.Block.{Block}
use Rattle.gr_vector.specs.declared.gap.TheConstants.{END}

pub record Numbers : Type 0 where
  pub blocks : List Block
  pub top : ℕ
  pub spare : ℕ

-- whether a block has a number: by the number's own bit, or by the last one
unfoldable pub has : ℕ → Block → Bool
has v block = bit_at block.bits (min (v - block.first) 63) == 1

-- what the last block says that begins at a number or below it, or else what is given
abbrev pub told : ℕ → Bool → List Block → Bool
told v given [] = given
told v given (block ∷ rest) = told v (if nat_lt v block.first then given else has v block) rest

abbrev pub is_noted : ℕ → List Block → Bool
is_noted v blocks = told v false blocks

abbrev pub AreAscending : ℕ → List Block → Type 0
AreAscending low [] = Unit {0}
AreAscending low (block ∷ rest) = (low ≤ block.first) × AreAscending block.first rest

-- blocks that begin above a number
abbrev pub AllAbove : ℕ → List Block → Type 0
AllAbove v [] = Unit {0}
AllAbove v (block ∷ rest) = (v < block.first) × AllAbove v rest

-- where the last block begins
abbrev pub last_first : ℕ → List Block → ℕ
last_first low [] = low
last_first low (block ∷ rest) = last_first block.first rest

abbrev pub holds : ℕ → Numbers → Bool
holds v numbers = nat_lt 0 v && (nat_le v numbers.top && is_noted v numbers.blocks)

abbrev pub holds_upto : ℕ → Numbers → Bool
holds_upto zero numbers = true
holds_upto (suc n) numbers = holds (suc n) numbers && holds_upto n numbers

-- the numbers, of those from 1 to a number, that are missing while the next is held
abbrev pub ends_upto : ℕ → (ℕ → Bool) → ℕ
ends_upto zero held = 0
ends_upto (suc n) held = ends_upto n held + (if not (held (suc n)) && held (suc (suc n)) then 1 else 0)

-- a greatest number and one up to which all are held, as the blocks have them
pub record IsKept (blocks : List Block) (top all : ℕ) : Type 0 where
  pub ascending : AreAscending 0 blocks
  pub most : top < END
  pub greatest : 1 ≤ top → is_noted top blocks ≡ true
  pub beyond : (v : ℕ) → top < v → is_noted v blocks ≡ false
  pub within : all ≤ top
  pub front : (v : ℕ) → 1 ≤ v → v ≤ all → is_noted v blocks ≡ true
  pub next : is_noted (all + 1) blocks ≡ false
