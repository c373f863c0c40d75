-- What all members of a run leave.
use Rattle.std.specs.Prelude.{◌≡◌, ℕ, ◌<◌, List, [], ◌∷◌, ◌++◌, length, slice_index_or}
use Rattle.gr_history.specs.declared.record.MemberRecord.{MemberRecord}
use Rattle.gr_member.specs.Left.{AreLeftBy}
use Rattle.gr_member.specs.Passes.{House}
use Rattle.gr_member.specs.Seats.{Place}

-- Of each member there is the record of what it leaves, of which its pass tells.
pub record AreEnded (houses : List House) (passes : List (List Place)) (records : List MemberRecord) : Type 0 where
  pub many : length records ≡ length houses
  pub each : (k : ℕ) (h : House) (p : List Place) (r : MemberRecord) → k < length houses
      → AreLeftBy (slice_index_or houses k h).plan (slice_index_or passes k p) (slice_index_or records k r)

-- One record more, of this member.
pub record IsOneMore (house : House) (pass : List Place) (old new : List MemberRecord) : Type 0 where
  pub one : MemberRecord
  pub last : new ≡ old ++ one ∷ []
  pub left : AreLeftBy house.plan pass one
