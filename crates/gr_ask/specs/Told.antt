-- The events of all queries that were opened at a member.
use Rattle.std.specs.Prelude.{ℕ, List, [], ◌∷◌, ◌++◌, ◌==◌, ◌&&◌, length, map, codes, decimal, flat_map, if◌then◌else◌, Option, Some, None}
use Rattle.std.specs.Borrow.{Bor}
use Rattle.std.specs.BTreeMap.{BTreeMap, is_at}
use Rattle.std.specs.Map.{lookup}
use Rattle.std.specs.Ordering.{nat_cmp}
use Rattle.gr_oql.specs.declared.event.Event.{Event}
use Rattle.gr_history.specs.declared.record.ClientRecord.{ClientRecord}
use Rattle.gr_history.specs.declared.record.ShardRecord.{ShardRecord}
use Rattle.gr_report.specs.Queries.{event_text}
use Rattle.gr_route.specs.declared.openings.Opening.{Opening}
use Rattle.gr_route.specs.Openings.{openings}

-- the openings at each shard, from shard 0 on
abbrev pub openings_at : List ShardRecord → List (List Opening)
openings_at shards = map (λ shard. openings shard.history.deeds) shards

-- what an opening by this step of a client was told, or else what others were
abbrev pub events_or : ℕ → ℕ → Opening → List Event → List Event
events_or client seq opening others = if opening.client == client && opening.seq == seq then opening.events else others

-- what a query was told at one shard, which was opened by this step of a client
abbrev pub events_of : ℕ → ℕ → List Opening → List Event
events_of client seq [] = []
events_of client seq (first ∷ rest) = events_or client seq first (events_of client seq rest)

-- and at all shards, one behind the other
abbrev pub events_told : ℕ → ℕ → List (List Opening) → List Event
events_told client seq shards = flat_map (events_of client seq) shards

-- which step of which client opened the query, its name, and how many events there are
abbrev pub head_text : Opening → ℕ → List ℕ
head_text opening number =
    codes "query " ++ decimal opening.client ++ codes "." ++ decimal opening.seq ++ codes " " ++ opening.name ++ codes " events "
    ++ decimal number

-- The events stand behind that, each on a line of its own.
abbrev pub told_text : Opening → List Event → List ℕ
told_text opening told = head_text opening (length told) ++ flat_map event_text told ++ codes "\n"

abbrev pub text_if_of : ℕ → List (List Opening) → Opening → List ℕ
text_if_of client shards opening = if opening.client == client then told_text opening (events_told client opening.seq shards) else []

-- The openings of a client, in the order of its steps. A query is opened at all shards of a member, so that the first of
-- them has each.
abbrev pub client_text : List (List Opening) → ℕ → List ℕ
client_text [] client = []
client_text (first ∷ rest) client = flat_map (text_if_of client (first ∷ rest)) first

abbrev pub text_if_at : ℕ → List (List Opening) → ClientRecord → List ℕ
text_if_at member shards one = if one.member == member then client_text shards one.client else []

-- all clients at the member, in their order
abbrev pub openings_text : ℕ → List (List Opening) → List ClientRecord → List ℕ
openings_text member shards clients = flat_map (text_if_at member shards) clients ++ codes "end\n"

-- ---- by steps

-- What the queries of one client were told, by the steps that opened them.
abbrev pub BySteps : Type 0
BySteps = List (ℕ × Bor (List Event))

abbrev pub lent : Option (Bor (List Event)) → List Event
lent None = []
lent (Some events) = events.now

abbrev pub events_at : ℕ → BySteps → List Event
events_at seq told = lent (lookup (is_at (nat_cmp seq)) told)

-- at all shards, one behind the other
abbrev pub events_among : ℕ → List (BTreeMap ℕ (Bor (List Event))) → List Event
events_among seq shards = flat_map (λ told. events_at seq told.entries) shards

-- the text of an opening, where it is the client's
abbrev pub text_if_found : ℕ → List (BTreeMap ℕ (Bor (List Event))) → Opening → List ℕ
text_if_found client shards opening = if opening.client == client then told_text opening (events_among opening.seq shards) else []
