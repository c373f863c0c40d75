-- What is told of a call, and the deed that it adds.
use Rattle.std.specs.Prelude.{◌≡◌, ℕ, reverse, is_some, Option, None, Some, if◌then◌else◌}
use Rattle.gr_stamp.specs.declared.change.Change.{Change}
use Rattle.gr_history.specs.declared.ask.Ask.{Ask}
use Rattle.gr_history.specs.declared.reply.Told.{Told}
use Rattle.gr_history.specs.declared.deed.Deed.{Deed}
use Rattle.gr_history.specs.declared.deed.Deed.TheVariants.{Call}
use Rattle.gr_history.specs.declared.done.Done.{Done}
use Rattle.gr_history.specs.declared.reply.Reply.{Reply}
use Rattle.gr_history.specs.declared.reply.Reply.TheVariants.{Limit}
use Rattle.gr_value.specs.Shard.{shard_of}
use Rattle.gr_history.specs.Asks.{key_of}
use Rattle.gr_history.specs.Calls.{call_gives, nothing_made}
use Rattle.gr_history.specs.Entries.{kind_of}
use Rattle.gr_history.specs.Made.{made_in, reply_in, to_in}
use Rattle.gr_shard.specs.declared.served.Served.{Served}
use Rattle.gr_shard.specs.declared.told.Answer.{Answer}
use Rattle.gr_shard.specs.View.{Account}

-- what an answer to an operation tells: where something changes it is what was asked for
abbrev pub told_by : Ask → Answer → Told
told_by ask answer = record { reply = answer.reply; change = if answer.changes then Some (kind_of ask) else None }

-- the reply, and whether a change was made
abbrev pub served : Done → Served
served done = record { reply = done.reply; made = is_some done.made }

-- the deed of a client's call that gave this
abbrev pub call_with : ℕ → ℕ → Ask → Done → Deed
call_with client seq ask done = Call client done.to seq ask done.reply done.made

-- the deed of a call at a key of the shard, that gives now what the deed says
pub record IsNextCall (shard : Account) (deed : Deed) : Type 0 where
  pub client : ℕ
  pub seq : ℕ
  pub ask : Ask
  pub here : shard_of (key_of ask) shard.id.shards ≡ shard.id.shard
  pub gives : deed ≡ call_with client seq ask (call_gives shard.id shard.opening (reverse shard.deeds) ask)

-- what a call gave, by its deed
abbrev pub done_in : Deed → Done
done_in deed = record { reply = reply_in deed; made = made_in deed; to = to_in deed }

-- What a call gives that makes this change, which goes to these members, or for which no number is left.
abbrev pub given_with : ℕ → Reply → Option Change → Done
given_with to reply None = nothing_made Limit
given_with to reply (Some change) = record { reply = reply; made = Some change; to = to }
