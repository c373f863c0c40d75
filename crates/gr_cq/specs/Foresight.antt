-- A call that was foreseen.
use Rattle.std.specs.Prelude.{◌≡◌, ◌≤◌, ℕ, List, [], ◌∷◌, ◌++◌, length, map, max, Some, None}
use Rattle.std.specs.List.{AllByRecursion}
use Rattle.gr_oql.specs.declared.event.Event.{Event}
use Rattle.gr_oql.specs.declared.event.Turned.{Turned}
use Rattle.gr_cq.specs.Entries.{Kept, Entry, Queries, find, with_kept, kept_with, kept_taken, changed_at, coming_to}

-- what a call changes
pub data Foresight : Type 0 where
  Enrolling : Entry → Foresight
  Taking : ℕ → List ℕ → Foresight
  -- what each query is told, in their order
  Telling : List (List Event) → Foresight

abbrev pub told_each : List (List Event) → List Entry → List Entry
told_each [] entries = entries
told_each (events ∷ lists) [] = []
told_each (events ∷ lists) (entry ∷ entries) = with_kept (kept_with events) entry ∷ told_each lists entries

abbrev pub changed : Foresight → List Entry → List Entry
changed (Enrolling entry) entries = entries ++ entry ∷ []
changed (Taking client name) entries = changed_at client name kept_taken entries
changed (Telling lists) entries = told_each lists entries

abbrev pub coming_to_each : List Turned → List Entry → List (List Event)
coming_to_each turned entries = map (λ (entry : Entry). coming_to turned entry.kept) entries

-- for these queries as they are
abbrev pub IsOf : List Entry → Foresight → Type 0
IsOf entries (Enrolling entry) = find entry.client entry.name entries ≡ None
IsOf entries (Taking client name) = (kept : Kept) × (find client name entries ≡ Some kept)
IsOf entries (Telling lists) = (turned : List Turned) × (lists ≡ coming_to_each turned entries)

-- as much as each query is told at most
abbrev pub IsWithin : ℕ → Foresight → Type 0
IsWithin spare (Enrolling entry) = Unit {0}
IsWithin spare (Taking client name) = Unit {0}
IsWithin spare (Telling lists) = AllByRecursion (λ (events : List Event). length events ≤ spare) lists

-- the length of the longest list, and at least 1
abbrev pub longest : List (List Event) → ℕ
longest [] = 1
longest (events ∷ lists) = max (length events) (longest lists)

-- for how many events it wants room at each query
abbrev pub room_of : Foresight → ℕ
room_of (Enrolling entry) = 1
room_of (Taking client name) = 1
room_of (Telling lists) = longest lists

-- It was made for this registry as it is, and there is room for it.
pub record IsMadeFor (queries : Queries) (foreseen : Foresight) : Type 0 where
  pub made : IsOf queries.entries foreseen
  pub room : 1 ≤ queries.spare
  pub within : IsWithin queries.spare foreseen
