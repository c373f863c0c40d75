-- The shards of all members, what each client was told, and where what each step made stands, as a course leaves them.
use Rattle.std.specs.Prelude.{◌≡◌, ℕ, ◌-◌, ◌≤◌, ◌<◌, List, [], ◌∷◌, ◌++◌, length, reverse, get_or, set}
use Rattle.std.specs.Prelude.{slice_get, slice_index, Option, None, Some}
use Rattle.gr_stamp.specs.declared.change.Change.{Change}
use Rattle.gr_history.specs.declared.ask.Ask.{Ask}
use Rattle.gr_history.specs.declared.deed.Deed.{Deed}
use Rattle.gr_history.specs.declared.done.Done.{Done}
use Rattle.gr_history.specs.declared.identity.Identity.{Identity}
use Rattle.gr_history.specs.declared.query_ask.QueryAsk.{QueryAsk}
use Rattle.gr_history.specs.declared.query_reply.QueryReply.{QueryReply}
use Rattle.gr_history.specs.declared.record.Answer.{Answer}
use Rattle.gr_history.specs.declared.record.ClientRecord.{ClientRecord}
use Rattle.gr_history.specs.declared.record.MemberRecord.{MemberRecord}
use Rattle.gr_history.specs.Calls.{call_gives}
use Rattle.gr_history.specs.Queries.{query_gives}
use Rattle.gr_shard.specs.Records.{IsRecordOf}
use Rattle.gr_shard.specs.View.{Account, after_deed}
use Rattle.gr_script.specs.declared.line.Line.{Line}
use Rattle.gr_script.specs.declared.line.Line.TheVariants.{Step, Deliver, Hear, Sweep, Join, Depart, Leave, Back}
use Rattle.gr_script.specs.declared.line.Line.TheVariants as line
use Rattle.gr_script.specs.Rules.{Heading, IsMember, IsStated, home_of}
use Rattle.gr_world.specs.Events.{Event, history}
use Rattle.gr_world.specs.Doings.{Doing, deed_of}
use Rattle.gr_world.specs.Named.{made_by}
use Rattle.gr_world.specs.Noted.{place_of}
use Rattle.gr_world.specs.Courses.{asks_at_each, identity_at}
use Rattle.gr_world.specs.Records.{answers}
use Rattle.gr_world.specs.Numbered.{numbers_from, PairsFrom}
use Rattle.gr_world.specs.declared.place.DeedPlace.{DeedPlace}
use Rattle.gr_world.specs.declared.world.World.{World}
use Rattle.gr_history.specs.Made.{made_in}

-- (what a read gives where there is nothing)
abbrev pub no_account : Account
no_account = record { id = record { member = 0; members = 0; founders = 0; shard = 0; shards = 0 }; opening = 0; deeds = []; spare = 0 }

abbrev pub account_in : List Account → ℕ → Account
account_in row shard = get_or row shard no_account

-- a member's shard
abbrev pub account_at : List (List Account) → ℕ → ℕ → Account
account_at grid member shard = account_in (get_or grid (member - 1) []) shard

pub record IsCell (grid : List (List Account)) (member shard : ℕ) : Type 0 where
  pub from : 1 ≤ member
  pub stated : member ≤ length grid
  pub within : shard < length (get_or grid (member - 1) [])

-- the deed of what is done at a shard
abbrev pub deed_at : Account → Doing → Deed
deed_at account doing = deed_of account.id account.opening (reverse account.deeds) doing

-- what a call gives at a shard
abbrev pub gives_at : Account → Ask → Done
gives_at account ask = call_gives account.id account.opening (reverse account.deeds) ask

-- with one more deed
abbrev pub longer : Account → Deed → Account
longer account deed = after_deed account deed

-- the grid with another account at a member's shard
abbrev pub with_account : List (List Account) → ℕ → ℕ → Account → List (List Account)
with_account grid member shard account = set grid (member - 1) (set (get_or grid (member - 1) []) shard account)

abbrev pub new_account : Identity → ℕ → ℕ → Account
new_account id floor shard = record { id = record id { shard = shard }; opening = floor; deeds = []; spare = 0 }

abbrev pub new_row : Identity → ℕ → ℕ → List Account
new_row id floor member = numbers_from 0 id.shards (new_account (record id { member = member }) floor)

-- a member's record has its number, and what each of its shards leaves
abbrev pub IsMemberOf : ℕ → List Account → MemberRecord → Type 0
IsMemberOf member row left = (left.member ≡ member) × PairsFrom (λ _. IsRecordOf) 0 row left.shards

-- a client's record has its number, its member, and what it was told
abbrev pub IsClientOf : List ℕ → ℕ → List Answer → ClientRecord → Type 0
IsClientOf members client told left =
    left ≡ record { client = client; member = slice_index members (client - 1); answers = told }

-- ---- what a course leaves

abbrev pub account_left : Heading → List Event → ℕ → ℕ → Account
account_left heading events member shard = record {
  id = identity_at heading member shard;
  opening = heading.floor;
  deeds = reverse (history member shard events);
  spare = 0;
}

abbrev pub grid_left : Heading → List Event → List (List Account)
grid_left heading events = numbers_from 1 heading.members (λ member. numbers_from 0 heading.shards (account_left heading events member))

abbrev pub tellings_left : Heading → List Event → List (List Answer)
tellings_left heading events = numbers_from 1 (length heading.clients) (λ client. answers client events)

-- At the place stands a deed that made this.
pub record StandsAt (heading : Heading) (events : List Event) (place : DeedPlace) (made : Option Change) : Type 0 where
  pub member : IsMember heading place.site.member
  pub shard : place.site.shard < heading.shards
  pub deed : Deed
  pub found : slice_get (reverse (history place.site.member place.site.shard events)) place.at ≡ Some deed
  pub made_is : made_in deed ≡ made

abbrev pub IsFound : Heading → List Event → Option DeedPlace → Option Change → Type 0
IsFound heading events None made = made ≡ None
IsFound heading events (Some place) made = StandsAt heading events place made

-- The place of what each step made is noted, where there are others to whom it may be delivered.
abbrev pub HasMade : Heading → List Event → List (List (Option DeedPlace)) → Type 0
HasMade heading events made =
    1 < heading.members → (client seq : ℕ) → IsFound heading events (place_of made client seq) (made_by client seq events)

pub record IsWorld (heading : Heading) (events : List Event) (world : World) : Type 0 where
  pub grid_is : world.grid ≡ grid_left heading events
  pub tellings_are : world.tellings ≡ tellings_left heading events
  pub made_are : HasMade heading events world.made

-- a client is told one answer more
abbrev pub told_also : List (List Answer) → ℕ → Answer → List (List Answer)
told_also tellings client answer = set tellings (client - 1) (get_or tellings (client - 1) [] ++ answer ∷ [])

-- The world is what some course leaves.
abbrev pub IsAtWork : Heading → World → Type 0
IsAtWork heading world = (events : List Event) × IsWorld heading events world

-- What is done to each course that left the old world was done to it.
abbrev pub Plays : Heading → (List Event → List Event) → World → World → Type 0
Plays heading act old new = (events : List Event) → IsWorld heading events old → IsWorld heading (act events) new

-- The shards below n of the client's member were asked something of a query, and these are their replies.
pub record AreAsked (heading : Heading) (client number : ℕ) (ask : QueryAsk) (n : ℕ) (replies : List QueryReply)
    (old new : World) : Type 0 where
  pub plays : Plays heading (asks_at_each heading client number ask n) old new
  pub replies_are : (events : List Event) → IsWorld heading events old
      → replies ≡ numbers_from 0 n (λ shard. query_gives client ask (history (home_of heading client) shard events))

-- A step of a client that is stated, or what members do.
abbrev pub CanPlay : Heading → Line → Type 0
CanPlay heading (Step client seq act) = IsStated client heading
CanPlay heading (Deliver to client seq) = IsMember heading to × (1 < heading.members)
CanPlay heading (line.Report member) = IsMember heading member
CanPlay heading (Hear by of number) = IsMember heading by × IsMember heading of
CanPlay heading (Sweep member moment) = IsMember heading member
CanPlay heading (Join joiner provider) = IsMember heading joiner
CanPlay heading (Depart member) = ⊥
CanPlay heading (Leave client moment) = Unit {0}
CanPlay heading (Back client moment) = Unit {0}
