-- The openings of queries in a history, and what each query is told.
use Rattle.std.specs.Prelude.{ℕ, suc, ◌+◌, List, [], ◌∷◌, ◌++◌, Bool, true, false, ◌&&◌, ◌==◌, bytes_eq, reverse}
use Rattle.std.specs.List.{position_or_len}
use Rattle.gr_history.specs.declared.deed.Deed.{Deed}
use Rattle.gr_history.specs.declared.deed.Deed.TheVariants.{Asked}
use Rattle.gr_history.specs.declared.query_ask.QueryAsk.TheVariants.{Enrol}
use Rattle.gr_history.specs.declared.query_reply.QueryReply.{QueryReply}
use Rattle.gr_history.specs.declared.query_reply.QueryReply.TheVariants as reply
use Rattle.gr_history.specs.Queries.{name_of}
use Rattle.gr_history.specs.Turned.{events}
use Rattle.gr_route.specs.declared.openings.Opening.{Opening}

-- A query ends where it is stopped or closed.
abbrev pub is_end : QueryReply → Bool
is_end (reply.Opened rows) = false
is_end reply.Stopped = true
is_end reply.Closed = true
is_end (reply.Fetched events) = false
is_end reply.Unknown = false
is_end reply.Taken = false
is_end reply.NotRunning = false

-- whether a deed ends the query of that client and name
abbrev pub ends : ℕ → List ℕ → Deed → Bool
ends client name (Asked own seq ask reply) = is_end reply && own == client && bytes_eq (name_of ask) name
ends client name deed = false

-- what a deed opens, if anything, in a history where so many deeds come before it and these behind it
abbrev pub opened_by : List Deed → ℕ → Deed → List Deed → List Opening
opened_by history place (Asked client seq (Enrol name question) (reply.Opened rows)) behind = record {
  client = client;
  seq = seq;
  name = name;
  events = events question history (suc place) (suc place + position_or_len (ends client name) behind);
} ∷ []
opened_by history place deed behind = []

abbrev pub openings_from : List Deed → ℕ → List Deed → List Opening
openings_from history place [] = []
openings_from history place (deed ∷ behind) = opened_by history place deed behind ++ openings_from history (suc place) behind

-- the openings of a history as it is kept, the oldest deed first
abbrev pub openings : List Deed → List Opening
openings deeds = openings_from (reverse deeds) 0 deeds
