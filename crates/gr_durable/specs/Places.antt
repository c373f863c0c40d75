-- The place of a history that a table shows.
use Rattle.std.specs.Prelude.{ℕ, suc, List, [], ◌∷◌, Option, Some, None, length}
use Rattle.gr_history.specs.declared.deed.Deed.{Deed}
use Rattle.gr_history.specs.declared.query_reply.QueryReply.{QueryReply}
use Rattle.gr_history.specs.declared.query_reply.QueryReply.TheVariants.{Opened, Stopped, Closed, Fetched, Unknown, Taken, NotRunning}
use Rattle.gr_history.specs.Queries.{Asking, asked_of, Opening, State, Neither, Running, Halted, state}

-- the opening of a query that is open
abbrev pub opening_of : State → Option Opening
opening_of Neither = None
opening_of (Running opening) = Some opening
opening_of (Halted opening stop) = Some opening

-- up to where a fetch reads that has this place: to the stop, where there is one
abbrev pub read_upto : State → ℕ → ℕ
read_upto Neither place = place
read_upto (Running opening) place = place
read_upto (Halted opening stop) place = stop

-- after a reply, with the place behind its deed and the state before it
abbrev pub shown_after : QueryReply → ℕ → State → ℕ → ℕ
shown_after (Opened rows) place before shown = place
shown_after Stopped place before shown = shown
shown_after Closed place before shown = shown
shown_after (Fetched events) place before shown = read_upto before place
shown_after Unknown place before shown = shown
shown_after Taken place before shown = shown
shown_after NotRunning place before shown = shown

abbrev pub shown_asked : Option Asking → ℕ → State → ℕ → ℕ
shown_asked None place before shown = shown
shown_asked (Some asking) place before shown = shown_after asking.reply place before shown

-- The place of a client's query: the stop, where it was stopped before the last deed that handed out events, else the place
-- behind that deed, else the one behind the opening.
abbrev pub shown_upto : ℕ → List ℕ → List Deed → ℕ
shown_upto client name [] = 0
shown_upto client name (deed ∷ past) =
    shown_asked (asked_of client name deed) (suc (length past)) (state client name past) (shown_upto client name past)
