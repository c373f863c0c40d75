-- A deed as a history keeps it: what a call changed stands in the change alone, beside what made it.
use Rattle.std.specs.Prelude.{ℕ, List, Some, None}
use Rattle.gr_value.specs.declared.value.Field.{Field}
use Rattle.gr_stamp.specs.declared.change.Change.{Change}
use Rattle.gr_stamp.specs.declared.change.Kind.{Kind}
use Rattle.gr_stamp.specs.declared.change.Kind.TheVariants as kind
use Rattle.gr_stamp.specs.declared.stamp.Stamp.{Stamp}
use Rattle.gr_history.specs.declared.ask.Ask.{Ask}
use Rattle.gr_history.specs.declared.ask.Ask.TheVariants as ask
use Rattle.gr_history.specs.declared.cause.Cause.{Cause}
use Rattle.gr_history.specs.declared.cause.Cause.TheVariants as cause
use Rattle.gr_history.specs.declared.deed.Deed.{Deed}
use Rattle.gr_history.specs.declared.deed.Deed.TheVariants as deed
use Rattle.gr_history.specs.declared.entry.Kept.{Kept}
use Rattle.gr_history.specs.declared.entry.Kept.TheVariants as kept
use Rattle.gr_history.specs.declared.reply.Reply.{Reply}
use Rattle.gr_history.specs.declared.reply.Reply.TheVariants as reply
use Rattle.gr_history.specs.Asks.{key_of}

-- what an operation does to its key, where it changes it
abbrev pub kind_of : Ask → Kind
kind_of (ask.Get key) = kind.Invalid
kind_of (ask.Put key value) = kind.Put value
kind_of (ask.PutIfAbsent key value) = kind.Put value
kind_of (ask.Replace key value) = kind.Put value
kind_of (ask.ReplaceIf key old new) = kind.Put new
kind_of (ask.Destroy key) = kind.Remove
kind_of (ask.Remove key value) = kind.Remove
kind_of (ask.Invalidate key) = kind.Invalid

-- the change that an operation makes, with this stamp
abbrev pub asked_change : Ask → Stamp → Change
asked_change asked stamp = record { key = key_of asked; kind = kind_of asked; stamp = stamp }

-- an operation that puts this value
abbrev pub putting : Cause → List ℕ → List Field → Ask
putting cause.PutIfAbsent key value = ask.PutIfAbsent key value
putting cause.Replace key value = ask.Replace key value
putting (cause.ReplaceOver before) key value = ask.Replace key value
putting (cause.ReplaceIf old) key value = ask.ReplaceIf key old value
putting _ key value = ask.Put key value

-- What was asked, by what made the change. Nothing that puts a value makes a change of another kind; were it so, it would read as a get.
abbrev pub asked_by : Cause → List ℕ → Kind → Ask
asked_by cause.Destroy key does = ask.Destroy key
asked_by (cause.Remove value) key does = ask.Remove key value
asked_by cause.Invalidate key does = ask.Invalidate key
asked_by made_by key (kind.Put value) = putting made_by key value
asked_by made_by key does = ask.Get key

-- what was replied
abbrev pub replied_by : Cause → Reply
replied_by (cause.PutOver before) = reply.Value before
replied_by (cause.ReplaceOver before) = reply.Value before
replied_by (cause.ReplaceIf old) = reply.Yes
replied_by (cause.Remove value) = reply.Yes
replied_by cause.Destroy = reply.Done
replied_by cause.Invalidate = reply.Done
replied_by _ = reply.Null

-- the deed that an entry stands for
abbrev pub deed_in : Kept → Deed
deed_in (kept.Changed client to seq change made_by) =
    deed.Call client to seq (asked_by made_by change.key change.kind) (replied_by made_by) (Some change)
deed_in (kept.Found client seq key value) = deed.Call client 0 seq (ask.Get key) (reply.Value value) None
deed_in (kept.Missed client seq key) = deed.Call client 0 seq (ask.Get key) reply.Null None
deed_in (kept.Taken verdict change) = deed.Taken change verdict
deed_in (kept.Rest whole) = whole
