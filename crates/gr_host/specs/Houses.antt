-- The members of a run, and passes at each of them.
use Rattle.std.specs.Prelude.{◌≡◌, ◌≢◌, ℕ, suc, ◌≤◌, ◌<◌, List, length, slice_index_or}
use Rattle.gr_member.specs.declared.plan.Plan.{Plan}
use Rattle.gr_member.specs.Seats.{Place}
use Rattle.gr_member.specs.Passes.{House, IsPassOf, StaysAll}

-- The members of a run, member 1 first: each is planned as this one, but for its number.
pub record AreMembers (plan : Plan) (houses : List House) : Type 0 where
  pub many : length houses ≡ plan.members
  pub each : (k : ℕ) (h : House) → k < plan.members → (slice_index_or houses k h).plan ≡ record plan { member = suc k }
  pub shards : (k : ℕ) (h : House) → k < plan.members → length (slice_index_or houses k h).locks ≡ plan.shards

-- a pass at each member
pub record ArePassesOf (houses : List House) (visits : List (List Place)) : Type 0 where
  pub many : length visits ≡ length houses
  pub each : (k : ℕ) (h : House) (p : List Place) → k < length houses
      → IsPassOf (slice_index_or houses k h) (slice_index_or visits k p)

-- the same passes, which forgot nothing
pub record StayAt (v w : List (List Place)) : Type 0 where
  pub many : length w ≡ length v
  pub each : (k : ℕ) (p : List Place) → k < length v → StaysAll (slice_index_or v k p) (slice_index_or w k p)

-- the plan of another member
abbrev pub of_member : Plan → ℕ → Plan
of_member plan giver = record plan { member = giver }

-- another member
pub record IsOther (plan : Plan) (giver : ℕ) : Type 0 where
  pub some : 1 ≤ giver
  pub stated : giver ≤ plan.members
  pub other : giver ≢ plan.member
