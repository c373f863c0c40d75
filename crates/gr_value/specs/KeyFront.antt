-- The first eight bytes as one number, by which keys are told apart without a look at the rest.
use Rattle.std.specs.Prelude.{◌≡◌, ℕ, zero, suc, ◌+◌, ◌-◌, ◌*◌, ◌^◌, ◌≤◌, List, [], ◌∷◌, drop, replicate}

-- The number that so many bytes spell, the first one counting most, with zeros behind the last.
unfoldable pub front_from : ℕ → List ℕ → ℕ
front_from zero bytes = 0
front_from (suc more) [] = 0
front_from (suc more) (byte ∷ bytes) = byte * 256 ^ more + front_from more bytes

abbrev pub front_of : List ℕ → ℕ
front_of bytes = front_from 8 bytes

-- Of 14 bytes so many count, and the others are zeros.
pub record IsPadded (len : ℕ) (all : List ℕ) : Type 0 where
  pub few : len ≤ 14
  pub zeros : drop len all ≡ replicate (14 - len) 0
