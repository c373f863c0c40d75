-- Lawful clients: what each client did, step by step, what came of it, and where it stands in the histories.
use Rattle.std.specs.Prelude.{◌≡◌, ℕ, suc, ◌≤◌, ◌<◌, List, [], ◌∷◌, ◌==◌, Option, Some, None, length, map, filter, reverse, get_or}
use Rattle.std.specs.Prelude.{flat_map, if◌then◌else◌}
use Rattle.std.specs.List.{AllByRecursion}
use Rattle.gr_value.specs.Shard.{shard_of}
use Rattle.gr_stamp.specs.declared.change.Change.{Change}
use Rattle.gr_history.specs.declared.ask.Ask.{Ask}
use Rattle.gr_history.specs.declared.reply.Reply.{Reply}
use Rattle.gr_history.specs.declared.query_ask.QueryAsk.{QueryAsk}
use Rattle.gr_history.specs.declared.query_reply.QueryReply.{QueryReply}
use Rattle.gr_history.specs.declared.query_reply.QueryReply.TheVariants.{Unknown}
use Rattle.gr_history.specs.declared.record.Answer.{Answer}
use Rattle.gr_history.specs.declared.record.Answer.TheVariants as answer
use Rattle.gr_history.specs.declared.record.ClientRecord.{ClientRecord}
use Rattle.gr_history.specs.declared.record.Record.{Record}
use Rattle.gr_history.specs.declared.deed.Deed.{Deed}
use Rattle.gr_history.specs.declared.deed.Deed.TheVariants.{Call, Asked, Taken, Gave, Imaged, Reported, Heard, Swept}
use Rattle.gr_history.specs.Asks.{key_of}
use Rattle.gr_history.specs.Deeds.{is_of_client}
use Rattle.gr_history.specs.Standing.{present}
use Rattle.gr_law.specs.Grids.{Among, Older, at_place}
use Rattle.gr_script.specs.declared.line.Act.TheVariants as act
use Rattle.gr_script.specs.declared.line.Line.{Line}
use Rattle.gr_script.specs.declared.line.Step.{Step}
use Rattle.gr_script.specs.Rules.{Heading, IsStated, home_of}
use Rattle.gr_script.specs.Steps.{steps_of}
use Rattle.gr_world.specs.Clients.{askings, asked}
use Rattle.gr_world.specs.Events.{Peek}
use Rattle.gr_world.specs.Grids.{Histories}
use Rattle.gr_world.specs.Histories.{history_at}
use Rattle.gr_world.specs.Numbered.{numbers_from}
use Rattle.gr_world.specs.Records.{histories_of}

-- the histories of a record
abbrev pub histories_in : Record → Histories
histories_in left member shard = history_at shard (map histories_of left.members) member

-- ---- one step

-- A step with what came of it, beside its number. A call: what was replied, the change that was made, and the members
-- that it goes to. A step on a query: what each shard answered, from shard 0 on. A peek: what
-- was told.
pub data Served : Type 0 where
  Called : ℕ → Ask → Reply → Option Change → ℕ → Served
  Queried : ℕ → QueryAsk → List QueryReply → Served
  Looked : ℕ → Peek → Served

-- the step of the script
abbrev pub step_of : Served → Step
step_of (Called number ask reply made to) = record { seq = number; act = act.Call ask }
step_of (Queried number ask replies) = record { seq = number; act = act.Query ask }
step_of (Looked number peek) = record { seq = number; act = act.Peek peek.key }

-- what the client was told
abbrev pub answer_of : Served → Answer
answer_of (Called number ask reply made to) = answer.Reply reply
answer_of (Queried number ask replies) = answer.Asked replies
answer_of (Looked number peek) = answer.Peeked peek.value peek.at

-- The deeds that it leaves at a shard of its member: a call at the shard of its key, a step on a query at every shard.
abbrev pub deeds_of : ℕ → ℕ → ℕ → Served → List Deed
deeds_of client shards shard (Called number ask reply made to) =
    if shard == shard_of (key_of ask) shards then Call client to number ask reply made ∷ [] else []
deeds_of client shards shard (Queried number ask replies) = Asked client number ask (get_or replies shard Unknown) ∷ []
deeds_of client shards shard (Looked number peek) = []

abbrev pub all_deeds_of : ℕ → ℕ → ℕ → List Served → List Deed
all_deeds_of client shards shard served = flat_map (deeds_of client shards shard) served

-- a step on a query has the reply of each shard
abbrev pub HasReplies : ℕ → Served → Type 0
HasReplies shards (Called number ask reply made to) = Unit {0}
HasReplies shards (Queried number ask replies) = length replies ≡ shards
HasReplies shards (Looked number peek) = Unit {0}

-- the number of a deed among the client's steps, where it is one of them
abbrev pub number_in : ℕ → Deed → Option ℕ
number_in client (Call own to number ask reply made) = if own == client then Some number else None
number_in client (Asked own number ask reply) = if own == client then Some number else None
number_in client (Taken change verdict) = None
number_in client (Gave to what) = None
number_in client (Imaged image) = None
number_in client (Reported report) = None
number_in client (Heard report) = None
number_in client (Swept moment expired) = None

-- A peek of the client, over the history of its key's shard: it tells what was present at a place of that history, which
-- is behind each deed of the client's earlier steps.
pub record IsPeek (client number : ℕ) (peek : Peek) (history : List Deed) : Type 0 where
  pub within : peek.at ≤ length history
  pub value_is : peek.value ≡ present peek.key (at_place peek.at history)
  pub late : (deed : Deed) (past : List Deed) (earlier : ℕ) → Older (deed ∷ past) history → number_in client deed ≡ Some earlier
      → earlier < number → suc (length past) ≤ peek.at

-- ---- all steps

-- The client did all its steps, and its member's histories have their deeds, each once and in order, with what was
-- answered. Its peeks look at its member's histories, and no later one at an earlier place of one history.
pub record IsServed (heading : Heading) (lines : List Line) (histories : Histories) (client : ℕ) (served : List Served) : Type 0 where
  pub steps : map step_of served ≡ steps_of client lines
  pub replies : AllByRecursion (HasReplies heading.shards) served
  pub deeds : (shard : ℕ) → shard < heading.shards
      → filter (is_of_client client) (reverse (histories (home_of heading client) shard)) ≡ all_deeds_of client heading.shards shard served
  pub peeks : (number : ℕ) (peek : Peek) → Among (Looked number peek) served
      → IsPeek client number peek (histories (home_of heading client) (shard_of peek.key heading.shards))
  pub growing : (number earlier : ℕ) (peek other : Peek)
      → Among (Looked number peek) served → Among (Looked earlier other) served
      → shard_of other.key heading.shards ≡ shard_of peek.key heading.shards → earlier < number → other.at ≤ peek.at

-- Each client's step in a history is one of a client of the script, at its member.
abbrev pub ArePlaced : Heading → Histories → Type 0
ArePlaced heading histories = (member shard client number : ℕ) (deed : Deed) → shard < heading.shards
    → Among deed (histories member shard) → number_in client deed ≡ Some number
    → IsStated client heading × (member ≡ home_of heading client)

-- what a client leaves of what it was served
abbrev pub client_of : Heading → (ℕ → List Served) → ℕ → ClientRecord
client_of heading served client = record { client = client; member = home_of heading client; answers = map answer_of (served client) }

-- Each client was served, its answers are those to its steps, one for each and in order, and nobody else's steps stand in
-- the histories.
pub record AreServed (heading : Heading) (lines : List Line) (histories : Histories) (clients : List ClientRecord) : Type 0 where
  pub served : ℕ → List Served
  pub answers : clients ≡ numbers_from 1 (length heading.clients) (client_of heading served)
  pub each : (client : ℕ) → IsStated client heading → IsServed heading lines histories client (served client)
  pub placed : ArePlaced heading histories

-- So it is of a record.
abbrev pub HasServed : Heading → List Line → Record → Type 0
HasServed heading lines left = AreServed heading lines (histories_in left) left.clients

-- ---- the steps of all clients

-- The steps of a history are just those that the lines ask there, each once and in the order of the lines.
abbrev pub FollowsLines : Heading → List Line → Histories → Type 0
FollowsLines heading lines histories =
    (member shard : ℕ) → shard < heading.shards → askings (histories member shard) ≡ asked heading member shard (reverse lines)
