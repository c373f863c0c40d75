-- What one step of a client does at its member's shards, and what it posts.
use Rattle.std.specs.Prelude.{◌≡◌, ℕ, ◌≤◌, ◌<◌, List, [], ◌∷◌, ◌++◌, length, slice_index_or, take}
use Rattle.gr_value.specs.Shard.{shard_of}
use Rattle.gr_oql.specs.declared.event.Turned.{Turned}
use Rattle.gr_history.specs.declared.deed.Deed.{Deed}
use Rattle.gr_history.specs.declared.record.Answer.{Answer}
use Rattle.gr_peek.specs.Publications.{present_after}
use Rattle.gr_post.specs.declared.mail.Posting.{Posting}
use Rattle.gr_script.specs.declared.line.Step.{Step}
use Rattle.gr_world.specs.Events.{Peek}
use Rattle.gr_world.specs.Served.{Served, Called, Queried, Looked, step_of, answer_of, deeds_of, HasReplies}
use Rattle.gr_run_law.specs.Plans.{posted_by}
use Rattle.gr_member.specs.Seats.{Place, Stays, Adds}
use Rattle.gr_member.specs.Passes.{AtEach}

-- These deeds were added, one after the other.
abbrev pub AddsEach : Place → List Deed → Place → Type 0
AddsEach s [] t = t.view ≡ s.view
AddsEach s (deed ∷ deeds) t = (u : Place) × Adds s deed u × AddsEach u deeds t

-- No turn was taken: the seat is as it was.
pub record IsStill (s t : Place) : Type 0 where
  pub stays : Stays s t
  pub same : t.view ≡ s.view

abbrev pub StandsStill : List Place → List Place → Type 0
StandsStill = AtEach IsStill

-- A peek tells what was present after the first publications, of those that the eye knows.
pub record IsSeen (peek : Peek) (known : List (List Turned)) : Type 0 where
  pub within : peek.at ≤ length known
  pub value_is : peek.value ≡ present_after (take peek.at known) peek.key

-- A peek looks behind all that the seat had seen, and not before what the eye knew.
pub record LooksBehind (peek : Peek) (s t : Place) : Type 0 where
  pub behind : length s.view.seen ≤ peek.at
  pub later : length s.eye.known ≤ peek.at
  pub seen : IsSeen peek t.eye.known

-- the same of passes, at the shard of its key
pub record LooksBehindAt (shards : ℕ) (peek : Peek) (p q : List Place) : Type 0 where
  pub there : shard_of peek.key shards < length p
  pub looks : (s : Place) → LooksBehind peek (slice_index_or p (shard_of peek.key shards) s) (slice_index_or q (shard_of peek.key shards) s)

-- the same of a step, where it is a peek
abbrev pub LooksWell : ℕ → Served → List Place → List Place → Type 0
LooksWell shards (Called number ask reply made to) p q = Unit {0}
LooksWell shards (Queried number ask replies) p q = Unit {0}
LooksWell shards (Looked number peek) p q = LooksBehindAt shards peek p q

-- A client did a step and was told so: at each shard the step's deeds were added, and what it made was posted behind what had
-- been posted before.
pub record Serves (client shards : ℕ) (step : Step) (told : Answer) (p q : List Place) (before after : List Posting) : Type 0 where
  pub one : Served
  pub step_is : step_of one ≡ step
  pub told_is : answer_of one ≡ told
  pub replies : HasReplies (length p) one
  pub adds : (shard : ℕ) (s : Place) → shard < length p
      → AddsEach (slice_index_or p shard s) (deeds_of client shards shard one) (slice_index_or q shard s)
  pub looks : LooksWell shards one p q
  pub posted : after ≡ before ++ posted_by shards one
