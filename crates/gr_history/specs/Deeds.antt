-- A history as it is kept: its deeds, the oldest first, and the number of deeds that there is room for.
use Rattle.std.specs.Prelude.{ℕ, List, Bool, true, false, ◌==◌, Option, Some, None}
use Rattle.gr_stamp.specs.declared.change.Change.{Change}
use Rattle.gr_history.specs.declared.verdict.Verdict.TheVariants as verdict
use Rattle.gr_history.specs.declared.deed.Deed.{Deed}
use Rattle.gr_history.specs.declared.deed.Deed.TheVariants.{Call, Asked, Taken, Gave, Imaged, Reported, Heard, Swept}
use Rattle.gr_history.specs.declared.deed_kind.DeedKind.{DeedKind}
use Rattle.gr_history.specs.declared.deed_kind.DeedKind.TheVariants as kinds

pub record Deeds : Type 0 where
  pub deeds : List Deed
  pub spare : ℕ

-- whether it is a step of the client
abbrev pub is_of_client : ℕ → Deed → Bool
is_of_client client (Call own to seq ask reply made) = own == client
is_of_client client (Asked own seq ask reply) = own == client
is_of_client client _ = false

-- whether a change that was taken in lost to what stood
abbrev pub is_discarded : Deed → Bool
is_discarded (Taken change verdict.Discarded) = true
is_discarded _ = false

-- whether a change that was taken in had come in before
abbrev pub is_repeat : Deed → Bool
is_repeat (Taken change verdict.Repeat) = true
is_repeat _ = false

-- the change that came, if one did
abbrev pub taken_in : Deed → Option Change
taken_in (Taken change verdict) = Some change
taken_in _ = None

abbrev pub kind_of_deed : Deed → DeedKind
kind_of_deed (Call client to seq ask reply made) = kinds.Call
kind_of_deed (Asked client seq ask reply) = kinds.Asked
kind_of_deed (Taken change verdict) = kinds.Taken
kind_of_deed (Gave to what) = kinds.Gave
kind_of_deed (Imaged image) = kinds.Imaged
kind_of_deed (Reported report) = kinds.Reported
kind_of_deed (Heard report) = kinds.Heard
kind_of_deed (Swept moment expired) = kinds.Swept
