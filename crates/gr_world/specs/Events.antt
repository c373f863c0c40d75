-- What happens while a script's lines are followed. Events are listed the newest one first, as the deeds of a
-- history are.
use Rattle.std.specs.Prelude.{ℕ, List, [], ◌∷◌, Bool, true, false, ◌&&◌, ◌==◌, Option}
use Rattle.gr_value.specs.declared.value.Field.{Field}
use Rattle.gr_history.specs.declared.deed.Deed.{Deed}
use Rattle.gr_history.specs.declared.query_reply.QueryReply.{QueryReply}

-- what a client is told that looks at a key: the value that was present, and how long the history was then
pub record Peek : Type 0 where
  pub key : List ℕ
  pub value : Option (List Field)
  pub at : ℕ

-- A deed was added to the history of a member's shard. Or a client was answered a peek, beside its number among the
-- client's steps. Or it was told what each shard of its member answered a step on a query, from shard 0 on.
pub data Event : Type 0 where
  Did : ℕ → ℕ → Deed → Event
  Peeked : ℕ → ℕ → Peek → Event
  Gathered : ℕ → ℕ → List QueryReply → Event

abbrev pub put_if : Bool → Deed → List Deed → List Deed
put_if true deed past = deed ∷ past
put_if false deed past = past

-- the history of a member's shard
abbrev pub history : ℕ → ℕ → List Event → List Deed
history member shard [] = []
history member shard (Did m s deed ∷ before) = put_if (shard == s && member == m) deed (history member shard before)
history member shard (Peeked client number peek ∷ before) = history member shard before
history member shard (Gathered client number replies ∷ before) = history member shard before
