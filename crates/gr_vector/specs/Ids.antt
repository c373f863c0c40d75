-- The ids of changes: who made a change, and which of its maker's it is, counted from 1.
use Rattle.std.specs.Prelude.{ℕ, zero, suc, ◌+◌, List, [], ◌∷◌, Bool, true, false, not, ◌&&◌, ◌||◌, ◌==◌, max, if◌then◌else◌}

pub record Id : Type 0 where
  pub member : ℕ
  pub rv : ℕ

-- A vector as contracts see it: its ids, and how many more it can note for sure.
pub record Ids : Type 0 where
  pub ids : List Id
  pub spare : ℕ

abbrev pub is_same_id : Id → Id → Bool
is_same_id one two = one.member == two.member && one.rv == two.rv

abbrev pub has_id : Id → List Id → Bool
has_id id [] = false
has_id id (first ∷ rest) = is_same_id first id || has_id id rest

-- the greatest number of a member, or 0
abbrev pub top : ℕ → List Id → ℕ
top member [] = 0
top member (first ∷ rest) = if first.member == member then max first.rv (top member rest) else top member rest

-- whether all of a member's from 1 to a number are there
abbrev pub covers : ℕ → ℕ → List Id → Bool
covers member zero ids = true
covers member (suc n) ids = has_id (record { member = member; rv = suc n }) ids && covers member n ids

-- whether a number is missing while the next is there
abbrev pub ends_gap : ℕ → ℕ → List Id → Bool
ends_gap member n ids = not (has_id (record { member = member; rv = n }) ids) && has_id (record { member = member; rv = suc n }) ids

-- how many numbers from 1 to a number end a run of missing ones
abbrev pub gaps_upto : ℕ → ℕ → List Id → ℕ
gaps_upto member zero ids = 0
gaps_upto member (suc n) ids = gaps_upto member n ids + (if ends_gap member (suc n) ids then 1 else 0)

-- how many runs of missing numbers lie below a member's greatest
abbrev pub exceptions : ℕ → List Id → ℕ
exceptions member ids = gaps_upto member (top member ids) ids
