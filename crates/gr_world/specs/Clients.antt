-- What clients asked, and what they were told, in the order of events.
use Rattle.std.specs.Prelude.{ℕ, List, [], ◌∷◌, ◌&&◌, ◌==◌, nat_lt, Option, Some, None, if◌then◌else◌}
use Rattle.gr_value.specs.Shard.{shard_of}
use Rattle.gr_history.specs.declared.ask.Ask.{Ask}
use Rattle.gr_history.specs.declared.deed.Deed.{Deed}
use Rattle.gr_history.specs.declared.deed.Deed.TheVariants.{Call, Asked}
use Rattle.gr_history.specs.declared.record.Answer.{Answer}
use Rattle.gr_history.specs.declared.record.Answer.TheVariants as answer
use Rattle.gr_history.specs.declared.query_ask.QueryAsk.{QueryAsk}
use Rattle.gr_history.specs.Asks.{key_of}
use Rattle.gr_script.specs.declared.line.Act.TheVariants as act
use Rattle.gr_script.specs.declared.line.Line.{Line}
use Rattle.gr_script.specs.declared.line.Line.TheVariants.{Step, Deliver, Hear, Sweep, Join, Depart, Leave, Back}
use Rattle.gr_script.specs.declared.line.Line.TheVariants as line
use Rattle.gr_script.specs.Rules.{Heading, home_of}
use Rattle.gr_world.specs.Events.{Event, Did, Peeked, Gathered}

abbrev pub add_some : {A : Type 0} → Option A → List A → List A
add_some None rest = rest
add_some (Some first) rest = first ∷ rest

-- ---- calls and steps on queries

-- what is asked, of a key or of a query
pub data Wish : Type 0 where
  OfKey : Ask → Wish
  OfQuery : QueryAsk → Wish

-- one step of a client, but a peek
pub record Asking : Type 0 where
  pub client : ℕ
  pub number : ℕ
  pub ask : Wish

abbrev pub asking_of : Deed → Option Asking
asking_of (Call client to seq ask reply made) = Some (record { client = client; number = seq; ask = OfKey ask })
asking_of (Asked client seq ask reply) = Some (record { client = client; number = seq; ask = OfQuery ask })
asking_of _ = None

-- what a history says was asked, the newest first
abbrev pub askings : List Deed → List Asking
askings [] = []
askings (deed ∷ past) = add_some (asking_of deed) (askings past)

-- At its client's member a call goes to the shard of its key, and a step on a query to every shard.
abbrev pub asked_at : Heading → ℕ → ℕ → Line → Option Asking
asked_at heading member shard (Step client number (act.Call ask)) =
    if shard == shard_of (key_of ask) heading.shards && member == home_of heading client
    then Some (record { client = client; number = number; ask = OfKey ask }) else None
asked_at heading member shard (Step client number (act.Query ask)) =
    if nat_lt shard heading.shards && member == home_of heading client
    then Some (record { client = client; number = number; ask = OfQuery ask }) else None
asked_at heading member shard (Step client number (act.Peek key)) = None
asked_at heading member shard (Deliver to of number) = None
asked_at heading member shard (line.Report of) = None
asked_at heading member shard (Hear to of number) = None
asked_at heading member shard (Sweep of moment) = None
asked_at heading member shard (Join joiner provider) = None
asked_at heading member shard (Depart of) = None
asked_at heading member shard (Leave client moment) = None
asked_at heading member shard (Back client moment) = None

-- what the lines ask there, the last one first
abbrev pub asked : Heading → ℕ → ℕ → List Line → List Asking
asked heading member shard [] = []
asked heading member shard (line ∷ past) = add_some (asked_at heading member shard line) (asked heading member shard past)

-- ---- answers

-- an answer with the number of its step
pub record Numbered : Type 0 where
  pub number : ℕ
  pub answer : Answer

abbrev pub told_by_deed : ℕ → Deed → Option Numbered
told_by_deed client (Call own to seq ask reply made) =
    if own == client then Some (record { number = seq; answer = answer.Reply reply }) else None
told_by_deed client _ = None

abbrev pub told_by : ℕ → Event → Option Numbered
told_by client (Did member shard deed) = told_by_deed client deed
told_by client (Peeked own number peek) =
    if own == client then Some (record { number = number; answer = answer.Peeked peek.value peek.at }) else None
told_by client (Gathered own number replies) =
    if own == client then Some (record { number = number; answer = answer.Asked replies }) else None

-- what a client was told, the newest answer first
abbrev pub told : ℕ → List Event → List Numbered
told client [] = []
told client (event ∷ before) = add_some (told_by client event) (told client before)
