-- Queries that were answered lawfully, and what a client makes of the answers.
use Rattle.std.specs.Prelude.{◌≡◌, ℕ, suc, List, [], ◌∷◌, ◌++◌, Option, Some, None, bytes_eq, length, if◌then◌else◌}
use Rattle.gr_oql.specs.declared.event.Event.{Event}
use Rattle.gr_oql.specs.Events.{Present, result_of, played}
use Rattle.gr_history.specs.declared.query_reply.Row.{Row}
use Rattle.gr_history.specs.declared.query_reply.QueryReply.{QueryReply}
use Rattle.gr_history.specs.declared.query_reply.QueryReply.TheVariants.{Opened, Stopped, Closed, Fetched, Unknown, NotRunning}
use Rattle.gr_history.specs.declared.deed.Deed.{Deed}
use Rattle.gr_history.specs.declared.deed.Deed.TheVariants.{Asked}
use Rattle.gr_history.specs.Standing.{present}
use Rattle.gr_history.specs.Turned.{events}
use Rattle.gr_history.specs.Queries.{Asking, Opening, State, Neither, Running, Halted, asked_of, state, query_gives}
use Rattle.gr_law.specs.Grids.{Older}
use Rattle.gr_history.specs.declared.query_ask.QueryAsk.TheVariants.{Enrol}
use Rattle.gr_history.specs.declared.query_reply.QueryReply.TheVariants as told_as

-- A query's step was answered what the past gives.
abbrev pub IsLawfulAsked : Deed → List Deed → Type 0
IsLawfulAsked (Asked client seq ask reply) past = reply ≡ query_gives client ask past
IsLawfulAsked _ past = Unit {0}

-- so was each one of a history
abbrev pub IsAnswered : List Deed → Type 0
IsAnswered [] = Unit {0}
IsAnswered (deed ∷ past) = IsLawfulAsked deed past × IsAnswered past

-- rows read as a map
abbrev pub found : List Row → Present
found [] key = None
found (row ∷ rows) key = if bytes_eq row.key key then Some row.value else found rows key

abbrev pub present_of : List Deed → Present
present_of past key = present key past

-- the events that were handed out since the opening; a closed query has none
abbrev pub with_reply : QueryReply → List Event → List Event
with_reply (Opened rows) before = []
with_reply (Fetched more) before = before ++ more
with_reply Stopped before = before
with_reply Closed before = []
with_reply Unknown before = before
with_reply told_as.Taken before = before
with_reply NotRunning before = before

abbrev pub with_asked : Option Asking → List Event → List Event
with_asked None before = before
with_asked (Some asking) before = with_reply asking.reply before

abbrev pub handed : ℕ → List ℕ → List Deed → List Event
handed client name [] = []
handed client name (deed ∷ past) = with_asked (asked_of client name deed) (handed client name past)

-- Where a query runs, the rows of its opening followed by the events since are its result over what is present.
abbrev pub IsKeptUp : ℕ → List ℕ → List Deed → Type 0
IsKeptUp client name history = (opening : Opening) → state client name history ≡ Running opening
    → (key : List ℕ)
    → played (found opening.rows) (events opening.question history opening.place (length history)) key ≡ result_of opening.question
    (present_of history) key

-- the events since the opening, up to the stop where it is stopped
abbrev pub since_opening : State → List Deed → List Event
since_opening Neither history = []
since_opening (Running opening) history = events opening.question history opening.place (length history)
since_opening (Halted opening stop) history = events opening.question history opening.place stop

abbrev pub IsFetched : QueryReply → Type 0
IsFetched reply = (more : List Event) × (reply ≡ Fetched more)

-- Where a deed hands out events, all that were handed out since the opening are the events since the opening.
abbrev pub IsHandedOut : ℕ → List ℕ → List Deed → Type 0
IsHandedOut client name [] = Unit {0}
IsHandedOut client name (deed ∷ past) = (asking : Asking) → asked_of client name deed ≡ Some asking → IsFetched asking.reply
    → handed client name (deed ∷ past) ≡ since_opening (state client name (deed ∷ past)) (deed ∷ past)

-- The deed that opened it stands in the history, with what was before it.
pub record IsOpenedIn (client : ℕ) (name : List ℕ) (opening : Opening) (history : List Deed) : Type 0 where
  pub past : List Deed
  pub seq : ℕ
  pub opened : Older (Asked client seq (Enrol name opening.question) (Opened opening.rows) ∷ past) history
  pub place_is : opening.place ≡ suc (length past)

abbrev pub IsOpened : ℕ → List ℕ → List Deed → Type 0
IsOpened client name history =
    (opening : Opening) → state client name history ≡ Running opening → IsOpenedIn client name opening history
