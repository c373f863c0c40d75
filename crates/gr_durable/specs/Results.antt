-- Tables show results.
use Rattle.std.specs.Prelude.{◌≡◌, ℕ, ◌<◌, ◌==◌, List, Option, Some, None, filter, length, map}
use Rattle.std.specs.List.{AllByRecursion}
use Rattle.std.specs.FinMap as finite
use Rattle.gr_value.specs.Shard.{shard_of}
use Rattle.gr_history.specs.declared.deed.Deed.{Deed}
use Rattle.gr_history.specs.declared.query_reply.Row.{Row}
use Rattle.gr_history.specs.declared.record.Record.{Record}
use Rattle.gr_history.specs.Places.{at_place}
use Rattle.gr_history.specs.Queries.{Opening, rows_of, state}
use Rattle.gr_law.specs.Grids.{Among}
use Rattle.gr_law.specs.Integrity.{IsSound}
use Rattle.gr_law.specs.Laws.{law_3}
use Rattle.gr_law.specs.QueryMaps.{Rows, map_of}
use Rattle.gr_script.specs.Rules.{Heading, home_of}
use Rattle.gr_world.specs.Grids.{grid_from}
use Rattle.gr_world.specs.Served.{histories_in}
use Rattle.gr_durable.specs.declared.table.Table.{Table}
use Rattle.gr_durable.specs.Places.{opening_of, shown_upto}
use Rattle.gr_durable.specs.Tables.{held_after, tables_of}

-- ---- by one shard

-- the result at the place that the table shows, where the query is open
abbrev pub result_shown : Option Opening → ℕ → List Deed → Option Rows
result_shown None place history = None
result_shown (Some opening) place history = Some (map_of (rows_of opening.question (at_place place history)))

-- A client holds a table of just those queries that it has open, and the rows are the result at the place that it shows.
abbrev pub HoldsResults : ℕ → List Deed → Type 0
HoldsResults client history = (name : List ℕ)
    → finite.get (held_after client history) name
    ≡ result_shown (opening_of (state client name history)) (shown_upto client name history) history

-- ---- by all shards

-- the rows of the keys of one shard
abbrev pub rows_at : ℕ → ℕ → List Row → List Row
rows_at shards shard rows = filter (λ row. shard_of row.key shards == shard) rows

-- By the history of one shard the query of the table is open, and the table's rows of this shard are its result over what is
-- present at the place that it shows.
pub record ShowsResult (shards shard : ℕ) (history : List Deed) (table : Table) : Type 0 where
  pub opening : Opening
  pub opened : opening_of (state table.client table.name history) ≡ Some opening
  pub rows_are : rows_at shards shard table.rows
      ≡ rows_of opening.question (at_place (shown_upto table.client table.name history) history)

-- a record has all shards of each member
abbrev pub HasShards : Heading → Record → Type 0
HasShards heading left = AllByRecursion (λ one. length one.shards ≡ heading.shards) left.members

-- At each shard what was taken in was made, and what is present is what all that was taken in leaves.
abbrev pub AreHeld : Heading → Record → Type 0
AreHeld heading left = (shard : ℕ) → shard < heading.shards
    → IsSound (grid_from heading (histories_in left) shard) × law_3 (grid_from heading (histories_in left) shard)

-- Durable tables: so it is of each table and each shard.
abbrev pub TablesShowResults : Heading → Record → Type 0
TablesShowResults heading left = (table : Table) → Among table (tables_of left) → (shard : ℕ) → shard < heading.shards
    → ShowsResult heading.shards shard (histories_in left (home_of heading table.client) shard) table
