-- What a deed that was prepared changes of what a shard keeps, and what that takes.
use Rattle.std.specs.Prelude.{◌≡◌, ◌≤◌, ℕ, ◌+◌, List, ◌||◌, false, Option, Some, None, unwrap_or, box_value}
use Rattle.gr_cq.specs.Entries.{Entry, Queries}
use Rattle.gr_cq.specs.Foresight.{IsMadeFor, IsOf, changed, room_of}
use Rattle.gr_history.specs.declared.identity.Identity.{Identity}
use Rattle.gr_history.specs.declared.query_ask.QueryAsk.TheVariants as asks
use Rattle.gr_slots.specs.Slots.{Entries, with_slot}
use Rattle.gr_stamp.specs.declared.change.Change.{Change}
use Rattle.gr_stable.specs.Heard.{Reports, with_report}
use Rattle.gr_vector.specs.declared.report.Report.{Report}
use Rattle.gr_vector.specs.Ids.{Id}
use Rattle.gr_vector.specs.Order.{with_id}
use Rattle.gr_shard.specs.declared.effect.Effect.{Effect}
use Rattle.gr_shard.specs.declared.effect.IdsAfter.{IdsAfter}
use Rattle.gr_shard.specs.declared.effect.IdsAfter.TheVariants as ids_
use Rattle.gr_shard.specs.declared.effect.QueriesAfter.{QueriesAfter}
use Rattle.gr_shard.specs.declared.effect.QueriesAfter.TheVariants as queries_
use Rattle.gr_shard.specs.declared.effect.SlotsAfter.{SlotsAfter}
use Rattle.gr_shard.specs.declared.effect.SlotsAfter.TheVariants as slots_
use Rattle.gr_shard.specs.Entries.{slot_from}
use Rattle.gr_shard.specs.Gifts.{with_recipient}
use Rattle.gr_shard.specs.InStep.{served}
use Rattle.gr_shard.specs.Sweeps.{without_all}
use Rattle.gr_shard.specs.View.{Kept}

-- ---- what is kept afterwards

abbrev pub unchanged : Effect
unchanged = record {
  slots = slots_.Same;
  ids = ids_.Same;
  queries = queries_.Same;
  heard = None;
  to = None;
  floor = None;
  clock = None;
  joined = false;
}

abbrev pub slots_after : SlotsAfter → Entries → Entries
slots_after slots_.Same slots = slots
slots_after (slots_.With key slot) slots = with_slot key slot slots
slots_after (slots_.New new) slots = (box_value new).entries
slots_after (slots_.Without keys) slots = without_all keys slots

-- what becomes of the slots by what comes in at this clock, and of the ids by what was made, if anything is
abbrev pub arriving : Option Change → ℕ → SlotsAfter
arriving None clock = slots_.Same
arriving (Some change) clock = slots_.With change.key (slot_from change clock)

abbrev pub noting : Option Change → IdsAfter
noting None = ids_.Same
noting (Some change) = ids_.With change.stamp

abbrev pub ids_after : IdsAfter → List Id → List Id
ids_after ids_.Same ids = ids
ids_after (ids_.With stamp) ids = with_id (record { member = stamp.member; rv = stamp.rv }) ids
ids_after (ids_.New new) ids = (box_value new).ids

abbrev pub queries_after : QueriesAfter → List Entry → List Entry
queries_after queries_.Same queries = queries
queries_after (queries_.Told foreseen) queries = changed foreseen queries
queries_after (queries_.Stopped client name) queries = served client (asks.Stop name) queries
queries_after (queries_.Closed client name) queries = served client (asks.Close name) queries

abbrev pub heard_after : Option Report → Reports → Reports
heard_after None heard = heard
heard_after (Some report) heard = with_report report heard

-- the members that a change goes to
abbrev pub to_after : Identity → Option ℕ → ℕ → ℕ
to_after id None to = to
to_after id (Some other) to = with_recipient id other to

abbrev pub effected : Identity → Effect → Kept → Kept
effected id effect now = record {
  slots = slots_after effect.slots now.slots;
  vector = ids_after effect.ids now.vector;
  floor = unwrap_or effect.floor now.floor;
  clock = unwrap_or effect.clock now.clock;
  joined = effect.joined || now.joined;
  to = to_after id effect.to now.to;
  heard = heard_after effect.heard now.heard;
  queries = queries_after effect.queries now.queries;
}

-- ---- what it takes

-- how much room there must be
abbrev pub needs : QueriesAfter → ℕ
needs queries_.Same = 1
needs (queries_.Told foreseen) = 1 + room_of foreseen
needs (queries_.Stopped client name) = 1
needs (queries_.Closed client name) = 1

-- A slot has the clock for which there is room.
abbrev pub IsTimed : ℕ → SlotsAfter → Type 0
IsTimed clock slots_.Same = Unit {0}
IsTimed clock (slots_.With key slot) = slot.taken_at ≡ clock
IsTimed clock (slots_.New new) = Unit {0}
IsTimed clock (slots_.Without keys) = Unit {0}

-- There is room for a slot that comes in.
abbrev pub IsRoomed : Option ℕ → SlotsAfter → Type 0
IsRoomed room slots_.Same = Unit {0}
IsRoomed room (slots_.With key slot) = room ≡ Some slot.taken_at
IsRoomed room (slots_.New new) = Unit {0}
IsRoomed room (slots_.Without keys) = Unit {0}

abbrev pub IsMadeAt : List Entry → QueriesAfter → Type 0
IsMadeAt queries queries_.Same = Unit {0}
IsMadeAt queries (queries_.Told foreseen) = IsOf queries foreseen
IsMadeAt queries (queries_.Stopped client name) = Unit {0}
IsMadeAt queries (queries_.Closed client name) = Unit {0}

-- What was foreseen can be told to these queries.
abbrev pub IsReadyFor : Queries → QueriesAfter → Type 0
IsReadyFor queries queries_.Same = Unit {0}
IsReadyFor queries (queries_.Told foreseen) = IsMadeFor queries foreseen
IsReadyFor queries (queries_.Stopped client name) = Unit {0}
IsReadyFor queries (queries_.Closed client name) = Unit {0}

abbrev pub IsOneOfEight : Option ℕ → Type 0
IsOneOfEight None = Unit {0}
IsOneOfEight (Some to) = (1 ≤ to) × (to ≤ 8)
