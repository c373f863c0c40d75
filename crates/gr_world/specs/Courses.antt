-- The course of a script: all that its lines do, in one order.
use Rattle.std.specs.Prelude.{ℕ, zero, suc, List, [], ◌∷◌, Bool, true, false, ◌&&◌, ◌||◌, ◌==◌, not, Option, Some, None, length, reverse}
use Rattle.gr_value.specs.Shard.{shard_of}
use Rattle.gr_stamp.specs.declared.change.Change.{Change}
use Rattle.gr_vector.specs.declared.report.Report.{Report}
use Rattle.gr_vector.specs.Ids.{has_id}
use Rattle.gr_history.specs.declared.identity.Identity.{Identity}
use Rattle.gr_history.specs.declared.image.Gift.{Gift}
use Rattle.gr_history.specs.declared.image.Gift.TheVariants as gift
use Rattle.gr_history.specs.declared.image.What.{What}
use Rattle.gr_history.specs.declared.image.What.TheVariants as what
use Rattle.gr_history.specs.declared.query_ask.QueryAsk.{QueryAsk}
use Rattle.gr_history.specs.declared.query_reply.QueryReply.{QueryReply}
use Rattle.gr_history.specs.Asks.{key_of}
use Rattle.gr_history.specs.Queries.{query_gives}
use Rattle.gr_history.specs.Gifts.{own_changes, image_of}
use Rattle.gr_history.specs.Ids.{id_of, ids}
use Rattle.gr_history.specs.Standing.{present}
use Rattle.gr_script.specs.declared.line.Act.TheVariants as act
use Rattle.gr_script.specs.declared.line.Line.{Line}
use Rattle.gr_script.specs.declared.line.Line.TheVariants.{Step, Deliver, Hear, Sweep, Join, Depart, Leave, Back}
use Rattle.gr_script.specs.declared.line.Line.TheVariants as line
use Rattle.gr_script.specs.Rules.{Heading, home_of}
use Rattle.gr_script.specs.Steps.{departed, is_gone}
use Rattle.gr_world.specs.Events.{Event, Did, Peeked, Gathered, history}
use Rattle.gr_world.specs.Departures.{taken_of, closing_report}
use Rattle.gr_world.specs.Doings.{Doing, Calls, Takes, Gives, Merges, Reports, Hears, Sweeps, Asks, deed_of}
use Rattle.gr_world.specs.Named.{made_by, reports, numbered}
use Rattle.gr_world.specs.Numbered.{numbers_from}

abbrev pub identity_at : Heading → ℕ → ℕ → Identity
identity_at heading member shard = record {
  member = member;
  members = heading.members;
  founders = heading.founders;
  shard = shard;
  shards = heading.shards;
}

-- One deed more, at the member's shard.
abbrev pub does : Heading → ℕ → ℕ → Doing → List Event → List Event
does heading member shard doing before =
    Did member shard (deed_of (identity_at heading member shard) heading.floor (history member shard before) doing) ∷ before

-- A client looks at a key, in the history of its shard at the client's member.
abbrev pub looks : Heading → ℕ → ℕ → List ℕ → List Event → List Event
looks heading client number key before =
    let past = history (home_of heading client) (shard_of key heading.shards) before in
    Peeked client number (record { key = key; value = present key past; at = length past }) ∷ before

-- for the numbers below n, in order
abbrev pub for_each : ℕ → (ℕ → List Event → List Event) → List Event → List Event
for_each zero act before = before
for_each (suc n) act before = act n (for_each n act before)

-- for each of these, in order
abbrev pub for_each_of : {A : Type 0} → (A → List Event → List Event) → List A → List Event → List Event
for_each_of act [] before = before
for_each_of act (item ∷ rest) before = for_each_of act rest (act item before)

-- A client asks something of a query at the shards below n of its member.
abbrev pub asks_at_each : Heading → ℕ → ℕ → QueryAsk → ℕ → List Event → List Event
asks_at_each heading client number ask n =
    for_each n (λ shard. does heading (home_of heading client) shard (Asks client number ask))

-- what each of the shards answers after its history
abbrev pub replies_to : Heading → ℕ → QueryAsk → List Event → List QueryReply
replies_to heading client ask before =
    numbers_from 0 heading.shards (λ shard. query_gives client ask (history (home_of heading client) shard before))

-- It asks at all shards, and is told what they answered.
abbrev pub asks : Heading → ℕ → ℕ → QueryAsk → List Event → List Event
asks heading client number ask before =
    Gathered client number (replies_to heading client ask before) ∷ asks_at_each heading client number ask heading.shards before

-- an act, unless something is so
abbrev pub unless : Bool → (List Event → List Event) → List Event → List Event
unless true act before = before
unless false act before = act before

-- A member takes in a change, if there is one, in the shard of its key, but no new one of a member that departed.
abbrev pub delivers : Heading → List ℕ → ℕ → Option Change → List Event → List Event
delivers heading gone member None before = before
delivers heading gone member (Some change) before =
    unless (is_gone gone change.stamp.member
    && not (has_id (id_of change) (ids (history member (shard_of change.key heading.shards) before))))
    (does heading member (shard_of change.key heading.shards) (Takes change)) before

abbrev pub hears : Heading → ℕ → ℕ → Option Report → List Event → List Event
hears heading member shard None before = before
hears heading member shard (Some report) before = does heading member shard (Hears report) before

-- the same of the report of this number that another member made at the shard
abbrev pub hears_of : Heading → ℕ → ℕ → ℕ → ℕ → List Event → List Event
hears_of heading member of number shard now = hears heading member shard (numbered number (reports (history of shard now))) now

abbrev pub takes_all : Heading → ℕ → ℕ → List Change → List Event → List Event
takes_all heading member shard = for_each_of (λ change. does heading member shard (Takes change))

-- A joiner takes in what it was given: it merges an image, and takes in changes.
abbrev pub takes_gift : Heading → ℕ → ℕ → Gift → List Event → List Event
takes_gift heading joiner shard (gift.Image image) before = does heading joiner shard (Merges image) before
takes_gift heading joiner shard (gift.Own changes) before = takes_all heading joiner shard changes before

-- A member gives its image or its own changes to the joiner, who takes them in at once.
abbrev pub gives : Heading → ℕ → ℕ → ℕ → What → List Event → List Event
gives heading joiner shard giver what.Image before =
    does heading joiner shard (Merges (image_of giver heading.floor (history giver shard before)))
    (does heading giver shard (Gives joiner what.Image) before)
gives heading joiner shard giver what.Own before =
    takes_all heading joiner shard (own_changes (history giver shard before))
    (does heading giver shard (Gives joiner what.Own) before)

abbrev pub gives_unless : Bool → Heading → ℕ → ℕ → ℕ → What → List Event → List Event
gives_unless true heading joiner shard giver what before = before
gives_unless false heading joiner shard giver what before = gives heading joiner shard giver what before

-- the provider gives its image, and every other member what it made
abbrev pub what_from : Bool → What
what_from true = what.Image
what_from false = what.Own

-- the gifts of all members that haven't departed, at one shard
abbrev pub joins_at : Heading → List ℕ → ℕ → ℕ → ℕ → List Event → List Event
joins_at heading gone joiner provider shard =
    for_each heading.members
    (λ n. gives_unless (is_gone gone (suc n) || suc n == joiner) heading joiner shard (suc n) (what_from (suc n == provider)))

-- ---- departures

-- A member hears the closing report of one that departed,
abbrev pub closes : Heading → ℕ → ℕ → ℕ → List Event → List Event
closes heading member shard of now = does heading member shard (Hears (closing_report of (history member shard now))) now

-- and of each that did.
abbrev pub closes_all : Heading → List ℕ → ℕ → ℕ → List Event → List Event
closes_all heading gone member shard =
    for_each heading.members (λ n. unless (not (is_gone gone (suc n))) (closes heading member shard (suc n)))

-- A sweep goes through behind these.
abbrev pub sweeps_at : Heading → List ℕ → ℕ → ℕ → ℕ → List Event → List Event
sweeps_at heading gone member moment shard now = does heading member shard (Sweeps moment) (closes_all heading gone member shard now)

-- A member takes in a change that it doesn't know yet.
abbrev pub takes_new : Heading → ℕ → ℕ → Change → List Event → List Event
takes_new heading member shard change before =
    unless (has_id (id_of change) (ids (history member shard before))) (does heading member shard (Takes change)) before

-- the same of each of these, in order
abbrev pub takes_new_all : Heading → ℕ → ℕ → List Change → List Event → List Event
takes_new_all heading member shard = for_each_of (takes_new heading member shard)

-- A member takes in the departed member's changes that another one took in, the oldest first.
abbrev pub copies : Heading → ℕ → ℕ → ℕ → ℕ → List Event → List Event
copies heading of shard taker giver before =
    takes_new_all heading taker shard (reverse (taken_of of (history giver shard before))) before

-- those of each other member that stays
abbrev pub copies_all : Heading → List ℕ → ℕ → ℕ → ℕ → List Event → List Event
copies_all heading gone of shard taker =
    for_each heading.members (λ n. unless (suc n == taker || is_gone gone (suc n)) (copies heading of shard taker (suc n)))

-- each member that stays does so
abbrev pub hands_over : Heading → List ℕ → ℕ → ℕ → List Event → List Event
hands_over heading gone of shard =
    for_each heading.members (λ n. unless (is_gone gone (suc n)) (copies_all heading gone of shard (suc n)))

-- ---- the lines

-- The table: what is done on each kind of line, where these members have departed. A script is expanded before it is played,
-- so no client leaves or comes back in one that is.
abbrev pub after : Heading → List ℕ → Line → List Event → List Event
after heading gone (Step client number (act.Call ask)) before =
    does heading (home_of heading client) (shard_of (key_of ask) heading.shards) (Calls client number ask) before
after heading gone (Step client number (act.Query ask)) before = asks heading client number ask before
after heading gone (Step client number (act.Peek key)) before = looks heading client number key before
after heading gone (Deliver member client number) before = delivers heading gone member (made_by client number before) before
after heading gone (line.Report member) before = for_each heading.shards (λ shard. does heading member shard Reports) before
after heading gone (Hear member of number) before = for_each heading.shards (hears_of heading member of number) before
after heading gone (Sweep member moment) before = for_each heading.shards (sweeps_at heading gone member moment) before
after heading gone (Join joiner provider) before = for_each heading.shards (joins_at heading gone joiner provider) before
after heading gone (Depart member) before = for_each heading.shards (hands_over heading (member ∷ gone) member) before
after heading gone (Leave client moment) before = before
after heading gone (Back client moment) before = before

-- all that the lines do, which are listed the last one first
abbrev pub course : Heading → List Line → List Event
course heading [] = []
course heading (line ∷ past) = after heading (departed past) line (course heading past)
