-- The record that a course leaves.
use Rattle.std.specs.Prelude.{◌≡◌, ℕ, List, length, map, reverse}
use Rattle.std.specs.List.{AllByRecursion}
use Rattle.gr_history.specs.declared.deed.Deed.{Deed}
use Rattle.gr_history.specs.declared.record.Answer.{Answer}
use Rattle.gr_history.specs.declared.record.ShardRecord.{ShardRecord}
use Rattle.gr_history.specs.declared.record.MemberRecord.{MemberRecord}
use Rattle.gr_history.specs.declared.record.ClientRecord.{ClientRecord}
use Rattle.gr_history.specs.declared.record.Record.{Record}
use Rattle.gr_history.specs.Regions.{IsRegionOf}
use Rattle.gr_script.specs.declared.line.Line.{Line}
use Rattle.gr_script.specs.Rules.{Heading, home_of}
use Rattle.gr_world.specs.Events.{Event, history}
use Rattle.gr_world.specs.Courses.{course}
use Rattle.gr_world.specs.Clients.{told}
use Rattle.gr_world.specs.Numbered.{numbers_from}

-- the histories of a member, shard by shard, the oldest deed first
pub record MemberHistories : Type 0 where
  pub member : ℕ
  pub shards : List (List Deed)

abbrev pub histories_of : MemberRecord → MemberHistories
histories_of member_record = record {
  member = member_record.member;
  shards = map (λ shard. shard.history.deeds) member_record.shards;
}

abbrev pub member_left : Heading → List Event → ℕ → MemberHistories
member_left heading events member = record {
  member = member;
  shards = numbers_from 0 heading.shards (λ shard. reverse (history member shard events));
}

abbrev pub members_left : Heading → List Event → List MemberHistories
members_left heading events = numbers_from 1 heading.members (member_left heading events)

-- the region of a shard is what stands after its history
abbrev pub HasRegion : ℕ → ShardRecord → Type 0
HasRegion opening shard = IsRegionOf opening (reverse shard.history.deeds) shard.region

abbrev pub HasRegions : ℕ → MemberRecord → Type 0
HasRegions opening member_record = AllByRecursion (HasRegion opening) member_record.shards

-- a client's answers, the first one first
abbrev pub answers : ℕ → List Event → List Answer
answers client events = reverse (map (λ one. one.answer) (told client events))

abbrev pub client_left : Heading → List Event → ℕ → ClientRecord
client_left heading events client = record { client = client; member = home_of heading client; answers = answers client events }

abbrev pub clients_left : Heading → List Event → List ClientRecord
clients_left heading events = numbers_from 1 (length heading.clients) (client_left heading events)

-- The record has all histories of the course, what stands after each, and what each client was told.
pub record IsLeft (heading : Heading) (events : List Event) (left : Record) : Type 0 where
  pub members : map histories_of left.members ≡ members_left heading events
  pub regions : AllByRecursion (HasRegions heading.floor) left.members
  pub clients : left.clients ≡ clients_left heading events

-- Replayed: the record is what the course of the script leaves.
abbrev pub IsReplayed : Heading → List Line → Record → Type 0
IsReplayed heading lines left = IsLeft heading (course heading (reverse lines)) left
