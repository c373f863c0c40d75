-- What members' own lines ask for, what a joiner is to be given, and what histories say of both.
use Rattle.std.specs.Prelude.{ℕ, List, [], ◌∷◌, ◌++◌, ◌==◌, ◌&&◌, not, Bool, true, false, Option, Some, None, if◌then◌else◌}
use Rattle.gr_stamp.specs.declared.change.Change.{Change}
use Rattle.gr_vector.specs.declared.report.Report.{Report}
use Rattle.gr_history.specs.declared.deed.Deed.{Deed}
use Rattle.gr_history.specs.declared.deed.Deed.TheVariants.{Call, Asked, Taken, Gave, Imaged, Reported, Heard, Swept}
use Rattle.gr_history.specs.declared.image.What.{What}
use Rattle.gr_history.specs.declared.image.What.TheVariants as what
use Rattle.gr_history.specs.Gifts.{own_changes}
use Rattle.gr_script.specs.declared.line.Line.{Line}
use Rattle.gr_script.specs.declared.line.Line.TheVariants as line
use Rattle.gr_world.specs.Courses.{what_from}

-- ---- a member's own lines

-- It is to report, to sweep at a moment, or to join by a provider's image.
pub data Duty : Type 0 where
  Reports : Duty
  Sweeps : ℕ → Duty
  Joins : ℕ → Duty

-- the duty that a deed carries out
abbrev pub duty_in : Deed → Option Duty
duty_in (Reported report) = Some Reports
duty_in (Swept moment expired) = Some (Sweeps moment)
duty_in (Imaged image) = Some (Joins image.from)
duty_in _ = None

-- the duty that a line gives the member
abbrev pub duty_of : ℕ → Line → Option Duty
duty_of member (line.Report of) = if of == member then Some Reports else None
duty_of member (line.Sweep of moment) = if of == member then Some (Sweeps moment) else None
duty_of member (line.Join joiner provider) = if joiner == member then Some (Joins provider) else None
duty_of member _ = None

-- ---- gifts

-- what a deed gave the joiner
abbrev pub gift_in : ℕ → Deed → Option What
gift_in joiner (Gave to what) = if to == joiner then Some what else None
gift_in joiner _ = None

-- what a line has a member give the joiner: the provider its image, and every other member what it made
abbrev pub gift_due : ℕ → ℕ → Line → Option What
gift_due giver joiner (line.Join to provider) =
    if to == joiner && not (giver == joiner) then Some (what_from (giver == provider)) else None
gift_due giver joiner _ = None

-- these changes, where a gift of own changes goes to the joiner
abbrev pub own_where : Bool → What → List Change → List Change
own_where true what.Own changes = changes
own_where true what.Image changes = []
own_where false what changes = []

-- all changes that a history's gifts of own changes brought the joiner, gift by gift
abbrev pub given_to : ℕ → List Deed → List Change
given_to joiner [] = []
given_to joiner (Gave to what ∷ past) = given_to joiner past ++ own_where (to == joiner) what (own_changes past)
given_to joiner (_ ∷ past) = given_to joiner past

-- ---- what came from others, and what they are told

-- the report that a deed heard
abbrev pub heard_in : Deed → Option Report
heard_in (Heard report) = Some report
heard_in _ = None

-- the report that a deed made
abbrev pub reported_in : Deed → Option Report
reported_in (Reported report) = Some report
reported_in _ = None

-- whether a deed is a client's step
abbrev pub is_step : Deed → Bool
is_step (Call client to seq ask reply made) = true
is_step (Asked client seq ask reply) = true
is_step _ = false
