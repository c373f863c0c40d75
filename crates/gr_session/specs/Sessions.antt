-- A client's session: what it did, as one list of steps with what came of each.
use Rattle.std.specs.Prelude.{◌≡◌, ℕ, ◌<◌, List, [], ◌∷◌, ◌++◌, length, map, slice_get, slice_index_or, take, Some}
use Rattle.std.specs.List.{AllByRecursion}
use Rattle.gr_value.specs.Shard.{shard_of}
use Rattle.gr_law.specs.Grids.{Among}
use Rattle.gr_post.specs.Passes.{Ring}
use Rattle.gr_script.specs.declared.line.Act.TheVariants as act
use Rattle.gr_script.specs.declared.line.Step.{Step}
use Rattle.gr_world.specs.Events.{Peek}
use Rattle.gr_world.specs.Served.{Served, Looked, step_of, answer_of, all_deeds_of, HasReplies}
use Rattle.gr_run_law.specs.Plans.{changes_posted}
use Rattle.gr_run_law.specs.Shares.{Stands}
use Rattle.gr_run_law.specs.Threads.{LooksFit}
use Rattle.gr_member.specs.Plans.{IsPlan}
use Rattle.gr_member.specs.Seats.{Place}
use Rattle.gr_member.specs.Passes.{House, IsPassOf, StaysAll}
use Rattle.gr_session.specs.declared.session.Session.{Session}
use Rattle.gr_session.specs.Mailing.{CanPost, CarriesOn}
use Rattle.gr_session.specs.Steps.{IsSeen}

-- The session is at this member, its courier takes mails for each member's inbox, and these are the inboxes.
pub record IsSessionAt (house : House) (rings : List Ring) (s : Session) : Type 0 where
  pub planned : IsPlan s.plan
  pub plan_is : s.plan ≡ house.plan
  pub its : IsPassOf house s.pass
  pub posts : CanPost rings s.plan.members s.courier

-- It is the same session, and forgot nothing.
pub record GoesOn (s t : Session) : Type 0 where
  pub client : t.client ≡ s.client
  pub plan : t.plan ≡ s.plan
  pub steps : t.steps ≡ s.steps
  pub stays : StaysAll s.pass t.pass
  pub carries : CarriesOn s.courier t.courier

-- What a client did left at one shard, of which the seat and the eye tell: its deeds, in order, and peeks that look behind
-- them, of which each tells what was present at its place.
pub record IsServedAt (client shards shard : ℕ) (s : Place) (served : List Served) : Type 0 where
  pub deeds : Stands s.view.seen 0 s.view.made (all_deeds_of client shards shard served)
  pub looks : LooksFit shards shard 0 s.view.made served
  pub told : (number : ℕ) (peek : Peek) → Among (Looked number peek) served → shard ≡ shard_of peek.key shards → IsSeen peek s.eye.known

-- The client did just this: the first of its steps, with these answers, posts and deeds.
pub record HasServed (s : Session) (served : List Served) : Type 0 where
  pub steps : map step_of served ≡ take (length served) s.steps
  pub answers : s.answers ≡ map answer_of served
  pub replies : AllByRecursion (HasReplies (length s.pass)) served
  pub posted : s.courier.posted ≡ changes_posted s.plan.shards served
  pub here : (shard : ℕ) (p : Place) → shard < length s.pass
      → IsServedAt s.client s.plan.shards shard (slice_index_or s.pass shard p) served

-- It did one step more.
abbrev pub ServesOneMore : Session → Session → Type 0
ServesOneMore s t = (served : List Served) → HasServed s served → (one : Served) × HasServed t (served ++ one ∷ [])

-- Its next step is a peek.
abbrev pub LooksNext : Session → Type 0
LooksNext s = (number : ℕ) × (key : List ℕ) × (let step : Step = record { seq = number; act = act.Peek key } in
    slice_get s.steps (length s.answers) ≡ Some step)

-- It did no step.
abbrev pub KeepsServed : Session → Session → Type 0
KeepsServed s t = (served : List Served) → HasServed s served → HasServed t served
