-- A shard as contracts see it, and how what it keeps is tied to its history.
use Rattle.std.specs.Prelude.{◌≡◌, ℕ, ◌+◌, ◌≤◌, ◌<◌, List, [], ◌∷◌, ◌++◌, Bool, true, if◌then◌else◌, Option, Some}
use Rattle.std.specs.List.{AllByRecursion}
use Rattle.gr_stamp.specs.declared.stamp.TheConstants.{LIMIT}
use Rattle.gr_history.specs.declared.identity.Identity.{Identity}
use Rattle.gr_history.specs.declared.deed.Deed.{Deed}
use Rattle.gr_vector.specs.Ids.{Id}
use Rattle.gr_history.specs.Ids.{known}
use Rattle.gr_history.specs.Standing.{standing}
use Rattle.gr_history.specs.Floor.{floor as floor_of}
use Rattle.gr_history.specs.Clock.{clock as clock_of, since}
use Rattle.gr_history.specs.Recipients.{NamesMembers, has_image, recipients}
use Rattle.gr_history.specs.Lawful.{IsLawful, IsOfShard}
use Rattle.gr_cq.specs.Entries.{Entry}
use Rattle.gr_slots.specs.Slots.{Entries, slot_at}
use Rattle.gr_stable.specs.Heard.{Reports, heard}
use Rattle.gr_shard.specs.Entries.{slot_of}
use Rattle.gr_shard.specs.InStep.{IsInStep, opened}

-- whose shard it is, the floor that it began with, and its deeds, the oldest first
pub record Account : Type 0 where
  pub id : Identity
  pub opening : ℕ
  pub deeds : List Deed
  -- where this is at least 1 there is room for a deed that was prepared
  pub spare : ℕ

-- with one more deed; the room is used up
abbrev pub after_deed : Account → Deed → Account
after_deed account deed = record account { deeds = account.deeds ++ deed ∷ []; spare = 0 }

-- the same deeds, with other room
abbrev pub with_spare : ℕ → Account → Account
with_spare spare account = record account { spare = spare }

-- What an identity and an opening floor may be.
pub record IsPlace (id : Identity) (opening : ℕ) : Type 0 where
  pub some_member : 1 ≤ id.member
  pub stated : id.member ≤ id.members
  pub few : id.members ≤ 8
  pub founded : id.founders ≤ id.members
  pub shard : id.shard < id.shards
  pub shards : id.shards ≤ 32
  pub opening_floor : opening ≤ LIMIT

-- what a shard keeps beside its history
pub record Kept : Type 0 where
  pub slots : Entries
  pub vector : List Id
  pub floor : ℕ
  pub clock : ℕ
  -- an image was merged
  pub joined : Bool
  -- the members that a change goes to
  pub to : ℕ
  -- of each member the report that counts
  pub heard : Reports
  -- the open queries
  pub queries : List Entry

abbrev pub kept : Entries → List Id → ℕ → ℕ → Bool → ℕ → Reports → List Entry → Kept
kept slots vector floor clock joined to heard queries = record {
  slots = slots;
  vector = vector;
  floor = floor;
  clock = clock;
  joined = joined;
  to = to;
  heard = heard;
  queries = queries;
}

-- What is kept is what the history says, which is lawful, of this shard's keys, and names members of 1 to `members` alone.
pub record IsKept (id : Identity) (opening : ℕ) (now : Kept) (past : List Deed) : Type 0 where
  pub place : IsPlace id opening
  pub lawful : IsLawful id opening past
  pub of_shard : IsOfShard id past
  pub named : AllByRecursion (NamesMembers id) past
  pub stands : (key : List ℕ) → slot_at key now.slots ≡ slot_of (standing key past) (since key past)
  pub noted : now.vector ≡ known past
  pub floored : now.floor ≡ floor_of opening past
  pub low : now.floor ≤ LIMIT
  pub clocked : now.clock ≡ clock_of past
  pub imaged : now.joined ≡ has_image past
  pub aimed : now.to ≡ recipients id past
  pub told : now.heard ≡ heard past
  pub in_step : IsInStep now.queries past

-- the room that contracts see, by what a query has room for
abbrev pub spare_of : Bool → ℕ → ℕ
spare_of roomy events = if roomy then 1 + events else 0

-- The open queries stand in the order that the history gives. Where there is room for a deed that was prepared, the history, the ids
-- and the slots have it.
pub record IsStocked (roomy : Bool) (history ids : ℕ) (room : Option ℕ) (clock : ℕ) (queries : List Entry) (past : List Deed) : Type 0 where
  pub open_are : queries ≡ opened past
  pub a_deed : roomy ≡ true → 1 ≤ history
  pub an_id : roomy ≡ true → 1 ≤ ids
  pub a_slot : roomy ≡ true → room ≡ Some clock
