-- Passes while they are taken from those of each member.
use Rattle.std.proofs.Common.{◌≡◌, ℕ, ◌<◌, ◌≤◌, List, [], ◌∷◌, ◌++◌, length, get_or}
use Rattle.gr_member.specs.Seats.{Place}

-- Of the first n members a pass was taken.
pub record TakenSoFar (old new : List (List (List Place))) (own : List (List Place)) (n : ℕ) : Type 0 where
  pub many : length new ≡ length old
  pub count : length own ≡ n
  pub gone : (k : ℕ) (x : List (List Place)) (d : List Place) → k < n → get_or old k x ≡ get_or new k x ++ get_or own k d ∷ []
  pub kept : (k : ℕ) (x : List (List Place)) → n ≤ k → get_or new k x ≡ get_or old k x
