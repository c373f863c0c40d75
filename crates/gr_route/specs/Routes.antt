-- Which of the enrolled queries a change can concern.
use Rattle.std.specs.Prelude.{ℕ, suc, ◌≤◌, List, [], ◌∷◌, Bool, Option, map, filter, option_map}
use Rattle.std.specs.List.{filter_map}
use Rattle.gr_oql.specs.declared.event.Event.{Event}
use Rattle.gr_oql.specs.declared.event.Turned.{Turned}
use Rattle.gr_oql.specs.Events.{told}
use Rattle.gr_oql.specs.Must.{must_of}
use Rattle.gr_cq.specs.Concern.{can_concern}
use Rattle.gr_route.specs.declared.enrolled.Enrolled.{Enrolled}

-- the enrolled queries, in the order of their numbers, and the number that comes next
pub record Routes : Type 0 where
  pub next : ℕ
  pub enrolled : List Enrolled

-- The numbers ascend from one number on, below another.
abbrev pub Ascend : ℕ → ℕ → List Enrolled → Type 0
Ascend from below [] = from ≤ below
Ascend from below (one ∷ rest) = (from ≤ one.number) × Ascend (suc one.number) below rest

abbrev pub is_reached : Turned → Enrolled → Bool
is_reached turned one = can_concern (must_of one.query) turned

-- the numbers of those that it can concern, in order
abbrev pub reached : Turned → List Enrolled → List ℕ
reached turned enrolled = map (λ one. one.number) (filter (is_reached turned) enrolled)

-- what a query is told of a change, with its number
abbrev pub event_for : Turned → Enrolled → Option (ℕ × Event)
event_for turned one = option_map (λ event. (one.number, event)) (told one.query turned)

abbrev pub events_for : Turned → List Enrolled → List (ℕ × Event)
events_for turned enrolled = filter_map (event_for turned) enrolled
