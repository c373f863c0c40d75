-- What is known of a member that departed: its changes that were taken in, and the report that closes it.
use Rattle.std.specs.Prelude.{◌≡◌, ℕ, ◌+◌, ◌^◌, List, [], ◌∷◌, ◌==◌, true, length, if◌then◌else◌}
use Rattle.gr_stamp.specs.declared.change.Change.{Change}
use Rattle.gr_vector.specs.declared.report.Report.{Report}
use Rattle.gr_history.specs.declared.deed.Deed.{Deed}
use Rattle.gr_history.specs.declared.deed.Deed.TheVariants.{Call, Asked, Taken, Gave, Imaged, Reported, Heard, Swept}
use Rattle.gr_history.specs.Gifts.{vector_of}
use Rattle.gr_script.specs.Steps.{is_gone}

-- a change, where it is one of the member
abbrev pub if_of : ℕ → Change → List Change → List Change
if_of of change rest = if change.stamp.member == of then change ∷ rest else rest

-- the changes of the member that a history took in, the newest first
abbrev pub taken_of : ℕ → List Deed → List Change
taken_of of [] = []
taken_of of (Call client to seq ask reply made ∷ past) = taken_of of past
taken_of of (Asked client seq ask reply ∷ past) = taken_of of past
taken_of of (Taken change verdict ∷ past) = if_of of change (taken_of of past)
taken_of of (Gave to what ∷ past) = taken_of of past
taken_of of (Imaged image ∷ past) = taken_of of past
taken_of of (Reported report ∷ past) = taken_of of past
taken_of of (Heard report ∷ past) = taken_of of past
taken_of of (Swept moment expired ∷ past) = taken_of of past

-- where the places of closing reports begin, behind those of all others
unfoldable pub behind_all : ℕ
behind_all = 2 ^ 60

-- The closing report of a member that departed, behind the history of the one that hears it: nothing of it is still to come.
abbrev pub closing_report : ℕ → List Deed → Report
closing_report of past = record { member = of; at = behind_all + length past; own = 0; to = 0; vector = vector_of past }

-- A deed hears the closing report of one that departed.
abbrev pub IsClosing : List ℕ → Deed → List Deed → Type 0
IsClosing gone (Heard report) past = (of : ℕ) × (is_gone gone of ≡ true) × (report ≡ closing_report of past)
IsClosing gone _ past = ⊥
