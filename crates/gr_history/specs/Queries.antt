-- The states of a client's queries, and what is answered to it.
use Rattle.std.specs.Prelude.{ℕ, suc, List, [], ◌∷◌, ◌==◌, Bool, true, false, ◌&&◌, max, bytes_eq, Option, Some, None, option_map}
use Rattle.std.specs.Prelude.{length, if◌then◌else◌}
use Rattle.std.specs.List.{filter_map}
use Rattle.gr_value.specs.declared.value.Field.{Field}
use Rattle.gr_oql.specs.declared.event.Event.{Event}
use Rattle.gr_oql.specs.Question.{Question}
use Rattle.gr_oql.specs.Events.{where_matching}
use Rattle.gr_history.specs.declared.query_ask.QueryAsk.{QueryAsk}
use Rattle.gr_history.specs.declared.query_ask.QueryAsk.TheVariants.{Enrol, Stop, Close, Fetch}
use Rattle.gr_history.specs.declared.query_reply.QueryReply.{QueryReply}
use Rattle.gr_history.specs.declared.query_reply.QueryReply.TheVariants as reply
use Rattle.gr_history.specs.declared.query_reply.Row.{Row}
use Rattle.gr_history.specs.declared.deed.Deed.{Deed}
use Rattle.gr_history.specs.declared.deed.Deed.TheVariants.{Asked}
use Rattle.gr_history.specs.Regions.{keys_of}
use Rattle.gr_history.specs.Standing.{changes, present}
use Rattle.gr_history.specs.Turned.{events}

abbrev pub name_of : QueryAsk → List ℕ
name_of (Enrol name question) = name
name_of (Stop name) = name
name_of (Close name) = name
name_of (Fetch name) = name

-- what is asked of a query, and what is answered
pub record Asking : Type 0 where
  pub ask : QueryAsk
  pub reply : QueryReply

-- what a deed asks of the query of that client and name, if anything
abbrev pub asked_of : ℕ → List ℕ → Deed → Option Asking
asked_of client name (Asked own seq ask reply) =
    if own == client && bytes_eq (name_of ask) name then Some (record { ask = ask; reply = reply }) else None
asked_of client name _ = None

-- an opening of a query: what it asks for, what was found, and the place behind the deed
pub record Opening : Type 0 where
  pub question : Question
  pub rows : List Row
  pub place : ℕ

-- A query that was stopped has the place of that deed too.
pub data State : Type 0 where
  Neither : State
  Running : Opening → State
  Halted : Opening → ℕ → State

-- A query runs once it was opened, until it is stopped or closed.
abbrev pub after_asking : QueryAsk → QueryReply → ℕ → State → State
after_asking (Enrol name question) (reply.Opened rows) place before =
    Running (record { question = question; rows = rows; place = suc place })
after_asking ask reply.Stopped place (Running opening) = Halted opening place
after_asking ask reply.Closed place before = Neither
after_asking ask reply place before = before

abbrev pub after_asked : Option Asking → ℕ → State → State
after_asked None place before = before
after_asked (Some asking) place before = after_asking asking.ask asking.reply place before

-- the state of the query of that client and name
abbrev pub state : ℕ → List ℕ → List Deed → State
state client name [] = Neither
state client name (deed ∷ past) = after_asked (asked_of client name deed) (length past) (state client name past)

abbrev pub is_fetched : QueryReply → Bool
is_fetched (reply.Opened rows) = false
is_fetched reply.Stopped = false
is_fetched reply.Closed = false
is_fetched (reply.Fetched events) = true
is_fetched reply.Unknown = false
is_fetched reply.Taken = false
is_fetched reply.NotRunning = false

-- the place behind a deed that hands out events, else the one before
abbrev pub behind_fetched : Option Asking → ℕ → ℕ → ℕ
behind_fetched None place before = before
behind_fetched (Some asking) place before = if is_fetched asking.reply then suc place else before

-- the place behind the last deed that handed out events of that client and name, or 0
abbrev pub fetched_upto : ℕ → List ℕ → List Deed → ℕ
fetched_upto client name [] = 0
fetched_upto client name (deed ∷ past) = behind_fetched (asked_of client name deed) (length past) (fetched_upto client name past)

-- from the later of the opening and what was handed out, up to the stop or the end
abbrev pub waiting_in : State → ℕ → List Deed → List Event
waiting_in Neither fetched past = []
waiting_in (Running opening) fetched past = events opening.question past (max opening.place fetched) (length past)
waiting_in (Halted opening stop) fetched past = events opening.question past (max opening.place fetched) stop

-- the events that a fetch would hand out now
abbrev pub waiting : ℕ → List ℕ → List Deed → List Event
waiting client name past = waiting_in (state client name past) (fetched_upto client name past) past

abbrev pub row_of : List ℕ → List Field → Row
row_of key value = record { key = key; value = value }

abbrev pub row_at : Question → List Deed → List ℕ → Option Row
row_at question past key = option_map (row_of key) (where_matching question (present key past))

-- the result: what is present and matches, in the order of the keys
abbrev pub rows_of : Question → List Deed → List Row
rows_of question past = filter_map (row_at question past) (keys_of (changes past))

abbrev pub enrol_gives : List Row → State → QueryReply
enrol_gives rows Neither = reply.Opened rows
enrol_gives rows (Running opening) = reply.Taken
enrol_gives rows (Halted opening stop) = reply.Taken

abbrev pub stop_gives : State → QueryReply
stop_gives Neither = reply.Unknown
stop_gives (Running opening) = reply.Stopped
stop_gives (Halted opening stop) = reply.NotRunning

abbrev pub close_gives : State → QueryReply
close_gives Neither = reply.Unknown
close_gives (Running opening) = reply.Closed
close_gives (Halted opening stop) = reply.Closed

abbrev pub fetch_gives : List Event → State → QueryReply
fetch_gives waits Neither = reply.Unknown
fetch_gives waits (Running opening) = reply.Fetched waits
fetch_gives waits (Halted opening stop) = reply.Fetched waits

-- what is answered, by the state and the events that wait
abbrev pub answer : QueryAsk → List Deed → State → List Event → QueryReply
answer (Enrol name question) past before waits = enrol_gives (rows_of question past) before
answer (Stop name) past before waits = stop_gives before
answer (Close name) past before waits = close_gives before
answer (Fetch name) past before waits = fetch_gives waits before

-- what a client is answered after the past
abbrev pub query_gives : ℕ → QueryAsk → List Deed → QueryReply
query_gives client ask past = answer ask past (state client (name_of ask) past) (waiting client (name_of ask) past)
