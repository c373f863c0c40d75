-- What a client is answered by what a shard keeps.
use Rattle.std.specs.Prelude.{◌≡◌, ℕ, List, Bool, true, false, Option, Some, None, option_map, unwrap_or}
use Rattle.std.specs.List.{filter_map}
use Rattle.gr_stamp.specs.Winner.{put_value}
use Rattle.gr_oql.specs.Events.{where_matching}
use Rattle.gr_oql.specs.Question.{Question}
use Rattle.gr_cq.specs.declared.query_end.QueryEnd.{QueryEnd}
use Rattle.gr_cq.specs.declared.query_end.QueryEnd.TheVariants.{Unknown, Taken, NotRunning, Memory}
use Rattle.gr_history.specs.declared.query_reply.QueryReply.{QueryReply}
use Rattle.gr_history.specs.declared.query_reply.QueryReply.TheVariants as reply
use Rattle.gr_history.specs.declared.query_reply.Row.{Row}
use Rattle.gr_history.specs.declared.deed.Deed.{Deed}
use Rattle.gr_history.specs.Clock.{since}
use Rattle.gr_history.specs.Standing.{standing}
use Rattle.gr_history.specs.Queries.{row_of}
use Rattle.gr_slots.specs.declared.slot.Slot.{Slot}
use Rattle.gr_slots.specs.Slots.{Entries, slot_at}
use Rattle.gr_shard.specs.declared.asking.Replies.{Replies}
use Rattle.gr_shard.specs.Entries.{slot_of}

-- The slots hold what stands after the past.
abbrev pub Hold : Entries → List Deed → Type 0
Hold slots past = (key : List ℕ) → slot_at key slots ≡ slot_of (standing key past) (since key past)

-- the row of a slot, where it is a put that matches
abbrev pub row_in : Question → List ℕ × Slot → Option Row
row_in question entry = option_map (row_of entry.0) (where_matching question (put_value entry.1.kind))

-- the result of a query over slots
abbrev pub rows_in : Question → Entries → List Row
rows_in question slots = filter_map (row_in question) slots

-- what a refusal is answered, where it isn't for want of memory
abbrev pub refusal : QueryEnd → Option QueryReply
refusal Unknown = Some reply.Unknown
refusal Taken = Some reply.Taken
refusal NotRunning = Some reply.NotRunning
refusal Memory = None

-- what is answered where this refuses, and else this
abbrev pub refused_or : Option QueryEnd → QueryReply → QueryReply
refused_or None granted = granted
refused_or (Some end) granted = unwrap_or (refusal end) granted

-- what is answered where a query is to be stopped, or closed, by whether it runs, if it is open
abbrev pub stop_said : Option Bool → QueryReply
stop_said None = reply.Unknown
stop_said (Some true) = reply.Stopped
stop_said (Some false) = reply.NotRunning

abbrev pub close_said : Option Bool → QueryReply
close_said None = reply.Unknown
close_said (Some runs) = reply.Closed

abbrev pub twice : QueryReply → Replies
twice reply = record { noted = reply; told = reply }
