-- What the operations on a key answer.
use Rattle.std.specs.Prelude.{ℕ, List, Bool, true, false, Option, Some, None}
use Rattle.gr_value.specs.declared.value.Field.{Field}
use Rattle.gr_value.specs.Fields.{value_eq}
use Rattle.gr_stamp.specs.declared.change.Kind.{Kind}
use Rattle.gr_stamp.specs.declared.change.Kind.TheVariants as kind
use Rattle.gr_history.specs.declared.ask.Ask.{Ask}
use Rattle.gr_history.specs.declared.ask.Ask.TheVariants as ask
use Rattle.gr_history.specs.declared.reply.Reply.{Reply}
use Rattle.gr_history.specs.declared.reply.Reply.TheVariants as reply
use Rattle.gr_history.specs.declared.reply.Told.{Told}

abbrev pub key_of : Ask → List ℕ
key_of (ask.Get key) = key
key_of (ask.Put key value) = key
key_of (ask.PutIfAbsent key value) = key
key_of (ask.Replace key value) = key
key_of (ask.ReplaceIf key old new) = key
key_of (ask.Destroy key) = key
key_of (ask.Remove key value) = key
key_of (ask.Invalidate key) = key

-- the value that was there, or that there was none
abbrev pub reply_of : Option (List Field) → Reply
reply_of None = reply.Null
reply_of (Some value) = reply.Value value

-- a reply beside which nothing changes
abbrev pub unchanged : Reply → Told
unchanged reply = record { reply = reply; change = None }

-- a reply beside which this is to change
abbrev pub changing : Reply → Kind → Told
changing reply kind = record { reply = reply; change = Some kind }

-- what is to change where a test holds, and else nothing
abbrev pub where_so : Bool → Kind → Told
where_so true kind = changing reply.Yes kind
where_so false kind = unchanged reply.No

-- What is at a key: nothing, the key without a value, or a value.
pub data AtKey : Type 0 where
  Absent : AtKey
  Valueless : AtKey
  Valued : List Field → AtKey

-- by whether the key is there, and the value that is present
abbrev pub at_key : Bool → Option (List Field) → AtKey
at_key there (Some value) = Valued value
at_key true None = Valueless
at_key false None = Absent

abbrev pub value_at : AtKey → Option (List Field)
value_at Absent = None
value_at Valueless = None
value_at (Valued value) = Some value

-- The table of the operations, over what is at the key.
abbrev pub told : Ask → AtKey → Told
told (ask.Get key) at = unchanged (reply_of (value_at at))
told (ask.Put key value) at = changing (reply_of (value_at at)) (kind.Put value)
told (ask.PutIfAbsent key value) Absent = changing reply.Null (kind.Put value)
told (ask.PutIfAbsent key value) Valueless = changing reply.Null (kind.Put value)
told (ask.PutIfAbsent key value) (Valued here) = unchanged (reply.Value here)
told (ask.Replace key value) Absent = unchanged reply.Null
told (ask.Replace key value) Valueless = changing reply.Null (kind.Put value)
told (ask.Replace key value) (Valued here) = changing (reply.Value here) (kind.Put value)
told (ask.ReplaceIf key old new) Absent = unchanged reply.No
told (ask.ReplaceIf key old new) Valueless = unchanged reply.No
told (ask.ReplaceIf key old new) (Valued here) = where_so (value_eq here old) (kind.Put new)
told (ask.Destroy key) Absent = unchanged reply.NotFound
told (ask.Destroy key) Valueless = changing reply.Done kind.Remove
told (ask.Destroy key) (Valued here) = changing reply.Done kind.Remove
told (ask.Remove key value) Absent = unchanged reply.No
told (ask.Remove key value) Valueless = unchanged reply.No
told (ask.Remove key value) (Valued here) = where_so (value_eq here value) kind.Remove
told (ask.Invalidate key) Absent = unchanged reply.NotFound
told (ask.Invalidate key) Valueless = unchanged reply.Done
told (ask.Invalidate key) (Valued here) = changing reply.Done kind.Invalid
