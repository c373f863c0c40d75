-- A client's thread, from its first step to its last look.
use Rattle.std.specs.Prelude.{◌≡◌, ℕ, ◌<◌, true, Bool, List, ◌++◌, length, map, reverse, slice_index_or}
use Rattle.std.specs.List.{AllByRecursion}
use Rattle.gr_history.specs.declared.record.ClientRecord.{ClientRecord}
use Rattle.gr_peek_law.specs.Turns.{turned_each}
use Rattle.gr_post.specs.Passes.{Sending}
use Rattle.gr_world.specs.Served.{Served, step_of, answer_of, HasReplies}
use Rattle.gr_run_law.specs.Plans.{changes_posted}
use Rattle.gr_member.specs.Seats.{Place}
use Rattle.gr_member.specs.Passes.{LooksAll, LooksUpAll}
use Rattle.gr_session.specs.declared.session.Session.{Session}
use Rattle.gr_session.specs.Mailing.{HasSent, HaveDelivered}
use Rattle.gr_session.specs.Sessions.{GoesOn, HasServed, IsServedAt}
use Rattle.gr_session.specs.Waiting.{WaitedFor}

-- Its pass looked at the member, and nothing else was changed.
pub record OnlyLooks (s t : Session) : Type 0 where
  pub same : t ≡ record s { pass = t.pass }
  pub looks : LooksAll s.pass t.pass

-- It did some steps more, or none.
pub record DoesMore (s t : Session) : Type 0 where
  pub goes : GoesOn s t
  pub served : (served : List Served) → HasServed s served → (more : List Served) × HasServed t (served ++ more)
  pub waited : WaitedFor s.plan s.pass → WaitedFor t.plan t.pass

-- It sent all its mail, and its pass looked at the member in the end.
pub record Leaves (s : Session) (pass : List Place) (told : ClientRecord) (sends : List Sending) : Type 0 where
  pub looks : LooksUpAll s.pass pass
  pub told_is : told ≡ record { client = s.client; member = s.plan.member; answers = s.answers }
  pub sent : HaveDelivered s.courier sends

-- The thread left these, of all the session's steps. What its eyes know is what the deeds turned that its seats have seen, and
-- no more.
pub record IsAttended (s : Session) (waits : Bool) (pass : List Place) (told : ClientRecord) (sends : List Sending) : Type 0 where
  pub served : List Served
  pub steps : map step_of served ≡ s.steps
  pub told_is : told ≡ record { client = s.client; member = s.plan.member; answers = map answer_of served }
  pub replies : AllByRecursion (HasReplies (length pass)) served
  pub here : (shard : ℕ) (p : Place) → shard < length pass
      → IsServedAt s.client s.plan.shards shard (slice_index_or pass shard p) served
  pub known : (shard : ℕ) (p : Place) → shard < length pass
      → (slice_index_or pass shard p).eye.known ≡ turned_each (reverse (slice_index_or pass shard p).view.seen)
  pub waited : waits ≡ true → WaitedFor s.plan pass
  pub sent : HasSent s.courier (changes_posted s.plan.shards served) sends
