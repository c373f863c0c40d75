-- The tables that clients hold of their queries, by what shards answered.
use Rattle.std.specs.Prelude.{ℕ, List, [], ◌∷◌, ◌==◌, Option, Some, None, option_map, map, flat_map, reverse, if◌then◌else◌}
use Rattle.std.specs.FinMap as finite
use Rattle.gr_history.specs.declared.deed.Deed.{Deed}
use Rattle.gr_history.specs.declared.deed.Deed.TheVariants.{Asked}
use Rattle.gr_history.specs.declared.query_reply.QueryReply.{QueryReply}
use Rattle.gr_history.specs.declared.query_reply.QueryReply.TheVariants.{Opened, Stopped, Closed, Fetched, Unknown, Taken, NotRunning}
use Rattle.gr_history.specs.declared.query_reply.Row.{Row}
use Rattle.gr_history.specs.declared.record.ClientRecord.{ClientRecord}
use Rattle.gr_history.specs.declared.record.MemberRecord.{MemberRecord}
use Rattle.gr_history.specs.declared.record.Record.{Record}
use Rattle.gr_history.specs.declared.record.ShardRecord.{ShardRecord}
use Rattle.gr_history.specs.Queries.{name_of, row_of}
use Rattle.gr_by_key.specs.Maps.{ByKey, names_in}
use Rattle.gr_law.specs.QueryMaps.{Rows, followed, map_of}
use Rattle.gr_durable.specs.declared.table.Table.{Table}

-- ---- by one shard

-- What a reply leaves of a table: an opening makes it, what is fetched is played on it in order, and a closed query has none.
abbrev pub with_reply : QueryReply → Option Rows → Option Rows
with_reply (Opened rows) before = Some (map_of rows)
with_reply Stopped before = before
with_reply Closed before = None
with_reply (Fetched events) before = option_map (λ rows. followed rows events) before
with_reply Unknown before = before
with_reply Taken before = before
with_reply NotRunning before = before

-- a client's tables by the names of its queries
abbrev pub Held : Type 0
Held = ByKey Rows

abbrev pub put_table : List ℕ → Option Rows → Held → Held
put_table name None held = finite.remove held name
put_table name (Some rows) held = finite.insert held name rows

abbrev pub with_deed : ℕ → Deed → Held → Held
with_deed client (Asked own seq ask reply) held =
    if own == client then put_table (name_of ask) (with_reply reply (finite.get held (name_of ask))) held else held
with_deed client _ held = held

-- what a client holds after a history, which is listed the newest deed first
abbrev pub held_after : ℕ → List Deed → Held
held_after client [] = finite.empty
held_after client (deed ∷ past) = with_deed client deed (held_after client past)

abbrev pub held_by : ℕ → ShardRecord → Held
held_by client shard = held_after client (reverse shard.history.deeds)

-- ---- by all shards

-- rows as a list, in the order of their keys
abbrev pub list_of : Rows → List Row
list_of rows = map (λ entry. row_of entry.0 entry.1) (finite.entries rows)

abbrev pub in_order : List Row → List Row
in_order rows = list_of (map_of rows)

abbrev pub rows_in : Option Rows → List Row
rows_in None = []
rows_in (Some rows) = list_of rows

abbrev pub rows_named : List ℕ → Held → List Row
rows_named name held = rows_in (finite.get held name)

-- the rows of all shards in one list
abbrev pub rows_over : List ℕ → List Held → List Row
rows_over name all = in_order (flat_map (rows_named name) all)

abbrev pub table_of : ℕ → List Held → List ℕ → Table
table_of client all name = record { client = client; name = name; rows = rows_over name all }

-- A query is open at all shards or at none, so the first one tells which are.
abbrev pub names_held : List Held → List (List ℕ)
names_held [] = []
names_held (first ∷ rest) = names_in first

abbrev pub tables_held : ℕ → List Held → List Table
tables_held client all = map (table_of client all) (names_held all)

-- ---- of a record

abbrev pub shards_of : ℕ → List MemberRecord → List ShardRecord
shards_of member [] = []
shards_of member (first ∷ rest) = if first.member == member then first.shards else shards_of member rest

abbrev pub tables_by : List MemberRecord → ClientRecord → List Table
tables_by members client = tables_held client.client (map (held_by client.client) (shards_of client.member members))

-- one table of each query that is open at the end, clients in order, names in order
abbrev pub tables_of : Record → List Table
tables_of left = flat_map (tables_by left.members) left.clients
