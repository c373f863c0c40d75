-- The open queries of a shard, and what keeps them in step with its history.
use Rattle.std.specs.Prelude.{◌≡◌, ℕ, List, [], ◌∷◌, Bool, true, false, Option, Some, None, option_map, if◌then◌else◌}
use Rattle.gr_oql.specs.declared.event.Event.{Event}
use Rattle.gr_cq.specs.Ends.{enrol_end, known_end, waiting_of}
use Rattle.gr_cq.specs.Entries.{Kept, Entry, find, enrolled, changed_at, kept_stopped, kept_taken, closed, noted}
use Rattle.gr_history.specs.declared.query_ask.QueryAsk.{QueryAsk}
use Rattle.gr_history.specs.declared.query_ask.QueryAsk.TheVariants.{Enrol, Stop, Close, Fetch}
use Rattle.gr_history.specs.declared.query_reply.QueryReply.{QueryReply}
use Rattle.gr_history.specs.declared.query_reply.QueryReply.TheVariants as reply
use Rattle.gr_history.specs.declared.query_reply.Row.{Row}
use Rattle.gr_history.specs.declared.deed.Deed.{Deed}
use Rattle.gr_history.specs.declared.deed.Deed.TheVariants as deeds
use Rattle.gr_history.specs.Turned.{turned}
use Rattle.gr_shard.specs.Asking.{close_said, refused_or, stop_said}
use Rattle.gr_history.specs.Queries.{State, Neither, Running, Halted, state, asked_of, waiting, rows_of}

-- whether a query that is found runs
abbrev pub runs_in : Option Kept → Option Bool
runs_in found = option_map (λ kept. kept.runs) found

-- what is kept of a query in this state, with these waiting events
abbrev pub kept_in : State → List Event → Option Kept
kept_in Neither waits = None
kept_in (Running opening) waits = Some (record { question = opening.question; runs = true; waiting = waits })
kept_in (Halted opening stop) waits = Some (record { question = opening.question; runs = false; waiting = waits })

-- Of each client and name the state and the waiting events are kept that the history gives.
abbrev pub IsInStep : List Entry → List Deed → Type 0
IsInStep entries past =
    (client : ℕ) (name : List ℕ) → find client name entries ≡ kept_in (state client name past) (waiting client name past)

-- a deed that asks nothing of any query
abbrev pub IsUnasked : Deed → Type 0
IsUnasked deed = (client : ℕ) (name : List ℕ) → asked_of client name deed ≡ None

-- the rows of a query that is opened
abbrev pub rows_of_ask : QueryAsk → List Deed → List Row
rows_of_ask (Enrol name question) past = rows_of question past
rows_of_ask (Stop name) past = []
rows_of_ask (Close name) past = []
rows_of_ask (Fetch name) past = []

-- what is answered by the query that is found; the rows are those of a query that is opened
abbrev pub reply_by : QueryAsk → List Row → Option Kept → QueryReply
reply_by (Enrol name question) rows found = refused_or (enrol_end found) (reply.Opened rows)
reply_by (Stop name) rows found = stop_said (runs_in found)
reply_by (Close name) rows found = close_said (runs_in found)
reply_by (Fetch name) rows found = refused_or (known_end found) (reply.Fetched (waiting_of found))

-- one list where a query is found, and another where none is
abbrev pub where_found : Option Kept → List Entry → List Entry → List Entry
where_found None entries others = others
where_found (Some kept) entries others = entries

abbrev pub is_running : Option Kept → Bool
is_running None = false
is_running (Some kept) = kept.runs

-- the open queries once a client asked
abbrev pub served : ℕ → QueryAsk → List Entry → List Entry
served client (Enrol name question) entries = where_found (find client name entries) entries (enrolled client name question entries)
served client (Stop name) entries =
    if is_running (find client name entries) then changed_at client name kept_stopped entries else entries
served client (Close name) entries = where_found (find client name entries) (closed client name entries) entries
served client (Fetch name) entries = where_found (find client name entries) (changed_at client name kept_taken entries) entries

-- The open queries after a history, in their order: each deed that brings a change tells them what it turns.
abbrev pub opened : List Deed → List Entry
opened [] = []
opened (deeds.Call client to seq ask reply None ∷ past) = opened past
opened (deeds.Call client to seq ask reply (Some made) ∷ past) =
    noted (turned (deeds.Call client to seq ask reply (Some made)) past) (opened past)
opened (deeds.Taken change told ∷ past) = noted (turned (deeds.Taken change told) past) (opened past)
opened (deeds.Asked client seq ask reply ∷ past) = served client ask (opened past)
opened (deeds.Imaged image ∷ past) = noted (turned (deeds.Imaged image) past) (opened past)
opened (deeds.Gave to what ∷ past) = opened past
opened (deeds.Reported report ∷ past) = opened past
opened (deeds.Heard report ∷ past) = opened past
opened (deeds.Swept moment expired ∷ past) = opened past
