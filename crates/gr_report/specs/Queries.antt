-- The text of what clients asked of queries, and of what they were told.
use Rattle.std.specs.Prelude.{ℕ, List, [], ◌∷◌, ◌++◌, ◌+◌, length, codes, decimal, flat_map, sum_by, Option, Some, None}
use Rattle.std.specs.Map.{values_of}
use Rattle.gr_value.specs.declared.value.Field.{Field}
use Rattle.gr_value.specs.ValueText.{value_text}
use Rattle.gr_oql.specs.declared.event.BaseOp.{BaseOp}
use Rattle.gr_oql.specs.declared.event.BaseOp.TheVariants as base
use Rattle.gr_oql.specs.declared.event.Event.{Event}
use Rattle.gr_oql.specs.declared.event.QueryOp.{QueryOp}
use Rattle.gr_oql.specs.declared.event.QueryOp.TheVariants as op
use Rattle.gr_history.specs.declared.query_ask.QueryAsk.{QueryAsk}
use Rattle.gr_history.specs.declared.query_reply.QueryReply.{QueryReply}
use Rattle.gr_history.specs.declared.query_reply.QueryReply.TheVariants.{Opened, Stopped, Closed, Fetched, Unknown, Taken, NotRunning}
use Rattle.gr_history.specs.declared.query_reply.Row.{Row}
use Rattle.gr_script.specs.Printed.{query_ask_text}
use Rattle.gr_report.specs.Rows.{by_key}

-- which step of which client it was, and what was asked
abbrev pub query_step_text : ℕ → ℕ → QueryAsk → List ℕ
query_step_text client seq ask = codes "ask " ++ decimal client ++ codes "." ++ decimal seq ++ codes " " ++ query_ask_text ask

-- the first line of what was told, of this many rows or events
abbrev pub query_line : QueryReply → ℕ → List ℕ
query_line (Opened rows) number = codes "opened " ++ decimal number
query_line Stopped number = codes "stopped"
query_line Closed number = codes "closed"
query_line (Fetched events) number = codes "fetched " ++ decimal number
query_line Unknown number = codes "unknown"
query_line Taken number = codes "taken"
query_line NotRunning number = codes "not-running"

-- the rows that a shard told
abbrev pub opened_rows : QueryReply → List Row
opened_rows (Opened rows) = rows
opened_rows Stopped = []
opened_rows Closed = []
opened_rows (Fetched events) = []
opened_rows Unknown = []
opened_rows Taken = []
opened_rows NotRunning = []

-- the events that a shard told
abbrev pub fetched_events : QueryReply → List Event
fetched_events (Opened rows) = []
fetched_events Stopped = []
fetched_events Closed = []
fetched_events (Fetched events) = events
fetched_events Unknown = []
fetched_events Taken = []
fetched_events NotRunning = []

-- what one shard told, without its rows and events
abbrev pub shard_line : QueryReply → List ℕ
shard_line reply = query_line reply (length (opened_rows reply) + length (fetched_events reply))

abbrev pub op_text : QueryOp → List ℕ
op_text op.Create = codes "create"
op_text op.Update = codes "update"
op_text op.Destroy = codes "destroy"

abbrev pub base_text : BaseOp → List ℕ
base_text base.Create = codes "create"
base_text base.Update = codes "update"
base_text base.Destroy = codes "destroy"
base_text base.Invalidate = codes "invalidate"

abbrev pub new_text : Option (List Field) → List ℕ
new_text None = codes "-"
new_text (Some value) = value_text value

-- Rows and events stand behind the first line, each on a line of its own.
unfoldable pub row_text : Row → List ℕ
row_text row = codes "\n " ++ row.key ++ codes " " ++ value_text row.value

unfoldable pub event_text : Event → List ℕ
event_text event =
    codes "\n " ++ op_text event.op ++ codes " " ++ base_text event.base ++ codes " " ++ event.key ++ codes " " ++ new_text event.value

-- the rows of all shards, in the order of their keys
abbrev pub all_rows : List QueryReply → List Row
all_rows replies = values_of (by_key (λ row. row.key) (flat_map opened_rows replies))

-- how many events the shards told
abbrev pub events_told : List QueryReply → ℕ
events_told replies = sum_by (λ reply. length (fetched_events reply)) replies

-- The first shard's reply tells of what kind they are.
abbrev pub told_by_all : QueryReply → List QueryReply → List ℕ
told_by_all (Opened rows) replies = query_line (Opened rows) (length (all_rows replies)) ++ flat_map row_text (all_rows replies)
told_by_all Stopped replies = query_line Stopped 0
told_by_all Closed replies = query_line Closed 0
told_by_all (Fetched events) replies =
    query_line (Fetched events) (events_told replies) ++ flat_map event_text (flat_map fetched_events replies)
told_by_all Unknown replies = query_line Unknown 0
told_by_all Taken replies = query_line Taken 0
told_by_all NotRunning replies = query_line NotRunning 0

-- what all shards told, from shard 0 on
abbrev pub replies_text : List QueryReply → List ℕ
replies_text [] = []
replies_text (first ∷ rest) = told_by_all first (first ∷ rest)
