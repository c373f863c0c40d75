-- The same with finite maps: rows and results as maps, which are equal where they have the same entries.
use Rattle.std.specs.Prelude.{◌≡◌, ℕ, List, [], ◌∷◌, Option, Some, None, map, length}
use Rattle.std.specs.Ordering.{nat_cmp}
use Rattle.std.specs.Cmp.Lexicographic.{slice_cmp}
use Rattle.gr_value.specs.declared.value.Field.{Field}
use Rattle.gr_oql.specs.declared.event.Event.{Event}
use Rattle.gr_oql.specs.Events.{value_left}
use Rattle.gr_history.specs.declared.query_reply.Row.{Row}
use Rattle.gr_history.specs.declared.deed.Deed.{Deed}
use Rattle.gr_history.specs.Turned.{events}
use Rattle.gr_history.specs.Queries.{Opening, Running, state, rows_of}
use Rattle.gr_law.specs.Grids.{Older, Grid}
use Rattle.gr_law.specs.Queries.{IsKeptUp, IsHandedOut, IsOpened}
use Rattle.std.specs.FinMap as finite

abbrev pub Rows : Type 0
Rows = finite.FinMap (slice_cmp nat_cmp) (List Field)

abbrev pub entry_of : Row → List ℕ × List Field
entry_of row = (row.key, row.value)

abbrev pub map_of : List Row → Rows
map_of rows = finite.from_entries (map entry_of rows)

abbrev pub put_at : List ℕ → Option (List Field) → Rows → Rows
put_at key None rows = finite.remove rows key
put_at key (Some value) rows = finite.insert rows key value

-- rows once all events were followed, in order
abbrev pub followed : Rows → List Event → Rows
followed rows [] = rows
followed rows (event ∷ events) = followed (put_at event.key (value_left event.op event.value) rows) events

-- Where a query runs, the rows of its opening followed by the events since are its result over what is present.
abbrev pub IsKeptUpAsMaps : ℕ → List ℕ → List Deed → Type 0
IsKeptUpAsMaps client name history = (opening : Opening) → state client name history ≡ Running opening
    → followed (map_of opening.rows) (events opening.question history opening.place (length history)) ≡ map_of (rows_of opening.question
    history)

-- What holds of a client's query at a place of a history.
pub record KeepsUp (client : ℕ) (name : List ℕ) (history : List Deed) : Type 0 where
  pub at_each_key : IsKeptUp client name history
  pub as_maps : IsKeptUpAsMaps client name history
  pub handed_out : IsHandedOut client name history
  pub opened : IsOpened client name history

-- The law on queries: so it is at each place of each history.
abbrev pub law_queries : Grid → Type 0
law_queries grid = (member : ℕ) (past : List Deed) → Older past (grid.history member) → (client : ℕ) (name : List ℕ)
    → KeepsUp client name past
