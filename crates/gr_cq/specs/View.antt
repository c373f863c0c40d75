-- An open query as contracts see it, and the room for the events that are coming.
use Rattle.std.specs.Prelude.{◌≤◌, ◌<◌, ℕ, List, [], ◌∷◌, length, map, vec_len, vec_capacity, Vec, box_value}
use Rattle.std.specs.Global.{Global}
use Rattle.std.specs.List.{AllByRecursion}
use Rattle.std.specs.Option.{option_to_list}
use Rattle.gr_oql.specs.declared.event.Event.{Event}
use Rattle.gr_cq.specs.declared.open.Open.{Open}
use Rattle.gr_cq.specs.declared.foreseen.Plan.{Plan}
use Rattle.gr_cq.specs.declared.foreseen.Plan.TheVariants as plan
use Rattle.gr_cq.specs.Entries.{Kept, Entry}
use Rattle.gr_cq.specs.Foresight.{Foresight, Enrolling, Taking, Telling}

abbrev pub kept_of : Open → Kept
kept_of one = record { question = one.query; runs = one.runs; waiting = one.waiting.events }

abbrev pub entry_of : Open → Entry
entry_of one = record { client = one.client; name = one.name; kept = kept_of one }

abbrev pub entries_of : List Open → List Entry
entries_of all = map entry_of all

-- room for so many events more at each query
abbrev pub HaveRoom : ℕ → List Open → Type 0
HaveRoom spare all = AllByRecursion (λ one. spare ≤ one.waiting.spare) all

-- room at each query for the events that it is told
abbrev pub Fit : List (List Event) → List Open → Type 0
Fit [] all = Unit {0}
Fit (events ∷ lists) [] = ⊥
Fit (events ∷ lists) (one ∷ all) = (length events ≤ one.waiting.spare) × Fit lists all

-- where `spare` isn't 0, for one query more too
pub record IsRoomy (spare : ℕ) (all : Vec Open Global) : Type 0 where
  pub one_more : 1 ≤ spare → vec_len all < vec_capacity all
  pub each : HaveRoom spare all.items

abbrev pub events_in : List (Vec Event Global) → List (List Event)
events_in lists = map (λ (events : Vec Event Global). events.items) lists

abbrev pub change_of : Plan → Foresight
change_of (plan.Enrol one) = Enrolling (entry_of (box_value one))
change_of (plan.Take client name) = Taking client name
change_of (plan.Tell event) = Telling (option_to_list event ∷ [])
change_of (plan.Note lists) = Telling (events_in lists.items)

-- room for a change
abbrev pub FitsIn : Vec Open Global → Plan → Type 0
FitsIn all (plan.Enrol one) = vec_len all < vec_capacity all
FitsIn all (plan.Take client name) = Unit {0}
FitsIn all (plan.Tell event) = Fit (option_to_list event ∷ []) all.items
FitsIn all (plan.Note lists) = Fit (events_in lists.items) all.items
