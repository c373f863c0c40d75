-- What lines name: the change that a step made, and the reports of a member by their numbers.
use Rattle.std.specs.Prelude.{ℕ, suc, List, [], ◌∷◌, ◌&&◌, ◌==◌, Option, Some, None, length, if◌then◌else◌}
use Rattle.gr_stamp.specs.declared.change.Change.{Change}
use Rattle.gr_vector.specs.declared.report.Report.{Report}
use Rattle.gr_history.specs.declared.deed.Deed.{Deed}
use Rattle.gr_history.specs.declared.deed.Deed.TheVariants.{Call, Asked, Taken, Gave, Imaged, Reported, Heard, Swept}
use Rattle.gr_world.specs.Events.{Event, Did, Peeked, Gathered}

-- what a deed made, where it is this step of the client
abbrev pub made_by_deed : ℕ → ℕ → Deed → Option Change
made_by_deed client number (Call own to seq ask reply made) = if own == client && seq == number then made else None
made_by_deed client number _ = None

abbrev pub or_else : {A : Type 0} → Option A → Option A → Option A
or_else (Some first) rest = Some first
or_else None rest = rest

-- the change that the client's step made
abbrev pub made_by : ℕ → ℕ → List Event → Option Change
made_by client number [] = None
made_by client number (Did m s deed ∷ before) = or_else (made_by_deed client number deed) (made_by client number before)
made_by client number (Peeked own seq peek ∷ before) = made_by client number before
made_by client number (Gathered own seq replies ∷ before) = made_by client number before

-- the reports of a history, the newest one first
abbrev pub reports : List Deed → List Report
reports [] = []
reports (Call client to seq ask reply made ∷ past) = reports past
reports (Asked client seq ask reply ∷ past) = reports past
reports (Taken change verdict ∷ past) = reports past
reports (Gave to what ∷ past) = reports past
reports (Imaged image ∷ past) = reports past
reports (Reported report ∷ past) = report ∷ reports past
reports (Heard report ∷ past) = reports past
reports (Swept moment expired ∷ past) = reports past

-- the one of this number, counted from 1 at the oldest
abbrev pub numbered : ℕ → List Report → Option Report
numbered number [] = None
numbered number (report ∷ older) = if suc (length older) == number then Some report else numbered number older
