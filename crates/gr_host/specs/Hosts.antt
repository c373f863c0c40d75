-- A member's thread: what it is before, while and after it serves.
use Rattle.std.specs.Prelude.{◌≡◌, ℕ, ◌-◌, ◌<◌, Bool, true, List, [], ◌∷◌, ◌++◌, Some, slice_get, length, map, filter, flat_map}
use Rattle.std.specs.Prelude.{slice_index_or}
use Rattle.std.specs.List.{AllByRecursion, filter_map}
use Rattle.gr_law.specs.Grids.{Among}
use Rattle.gr_history.specs.declared.image.Gift.{Gift}
use Rattle.gr_history.specs.declared.image.Gift.TheVariants as gift_
use Rattle.gr_history.specs.declared.image.Image.{Image}
use Rattle.gr_post.specs.declared.mail.Posted.{Posted}
use Rattle.gr_post.specs.declared.stage.Stage.TheVariants.{Open}
use Rattle.gr_post.specs.Couriers.{AreOf, NothingWaits, passes_of}
use Rattle.gr_post.specs.Mails.{of, has_end}
use Rattle.gr_post.specs.Passes.{Ring, Sending, Taking}
use Rattle.gr_run_law.specs.Plans.{posted_from}
use Rattle.gr_run_law.specs.Shares.{Stands}
use Rattle.gr_run_law.specs.Threads.{Work, Merged, FitsShards, duty_at, got_from, is_for, mail_of, round_of, work_at}
use Rattle.gr_member.specs.Plans.{IsPlan, identity_of}
use Rattle.gr_member.specs.Seats.{Place}
use Rattle.gr_member.specs.Passes.{House, IsPassOf, StaysAll}
use Rattle.gr_session.specs.Waiting.{HasMadeNothing}
use Rattle.gr_host.specs.declared.duties.Duty.{Duty}
use Rattle.gr_host.specs.declared.duties.Duty.TheVariants as duty
use Rattle.gr_host.specs.declared.host.Host.{Host}
use Rattle.gr_host.specs.Ends.{AreEnds}
use Rattle.gr_host.specs.Houses.{AreMembers, ArePassesOf, IsOther, StayAt, of_member}
use Rattle.gr_host.specs.Joins.{IsGivenBy, changes_in, what_of}
use Rattle.gr_host.specs.Mails.{TakesMore, others_of}
use Rattle.gr_session.specs.Mailing.{HasSent}
use Rattle.gr_host.specs.Works.{HasDone, HasGiven, duty_is, gift_for}

-- What a duty needs: a join is by another member, and takes a pass at each member.
abbrev pub CanBeDone : Host → Duty → Type 0
CanBeDone s (duty.Join from) = IsOther s.plan from × (length s.visits.items ≡ s.plan.members)
CanBeDone s _ = Unit {0}

-- Its mail comes by its member's inbox, of which it marks each `End`, and goes to these inboxes.
pub record HasMailAt (rings : List Ring) (s : Host) : Type 0 where
  pub planned : IsPlan s.plan
  pub takes : (r : Ring) → s.take.table ≡ (slice_index_or rings (s.plan.member - 1) r).table
  pub ends : AreEnds s.take.senders s.take.taken s.ends
  pub sends : AreOf rings s.courier
  pub many : length (passes_of s.courier) ≡ s.plan.members

-- It is the thread of one of these members, and these are the inboxes.
pub record IsHostAt (houses : List House) (rings : List Ring) (s : Host) : Type 0 where
  pub mail : HasMailAt rings s
  pub members : AreMembers s.plan houses
  pub its : (h : House) → IsPassOf (slice_index_or houses (s.plan.member - 1) h) s.pass
  pub visits : length s.visits.items ≡ s.plan.members → ArePassesOf houses s.visits.items
  pub duties : AllByRecursion (CanBeDone s) s.duties

-- It did nothing yet.
pub record HasBegun (s : Host) : Type 0 where
  pub pass : HasMadeNothing s.pass
  pub visits : (k : ℕ) (p : List Place) → k < length s.visits.items → HasMadeNothing (slice_index_or s.visits.items k p)
  pub taken : s.take.taken ≡ []
  pub posted : s.courier.posted ≡ []
  pub stage : s.courier.stage ≡ Open

-- It is the same thread, whose passes forgot nothing.
pub record HostGoesOn (s t : Host) : Type 0 where
  pub plan : t.plan ≡ s.plan
  pub duties : t.duties ≡ s.duties
  pub stays : StaysAll s.pass t.pass
  pub visits : StayAt s.visits.items t.visits.items

-- From one moment to a later one it did these works: these of its duties, and what the mails asked for that it took. It posted the
-- reports that it made.
pub record HasWorked (s t : Host) (duties : List Duty) (works : List Work) : Type 0 where
  pub did : HasDone s.plan (map duty_is duties) s.pass t.pass s.visits.items t.visits.items works
  pub more : List Posted
  pub took : TakesMore s.take t.take more
  pub mails : filter_map mail_of works ≡ filter (is_for s.plan.shards) (map (λ (p : Posted). p.mail) more)
  pub posted : t.courier.posted ≡ s.courier.posted ++ flat_map (posted_from (others_of s.plan) 0) (filter_map round_of works)

abbrev pub Works : Host → Host → List Duty → Type 0
Works s t duties = (works : List Work) × HasWorked s t duties works

-- It did the line at this place.
abbrev pub DoesLine : Host → ℕ → Host → Type 0
DoesLine s place t = (duty : Duty) × (slice_get s.duties place ≡ Some duty) × Works s t (duty ∷ [])

-- An `End` of each sender was taken, and nothing waits to be sent.
pub record IsThrough (s : Host) : Type 0 where
  pub ended : (k : ℕ) (b : Bool) → k < length s.ends → slice_index_or s.ends k b ≡ true
  pub sent : NothingWaits s.courier.lines

-- What a member's thread leaves, of which these works tell.
pub record IsHosted (s : Host) (pass : List Place) (visits : List (List Place)) (take : Taking) (sends : List Sending) : Type 0 where
  pub works : List Work
  pub stands : (shard : ℕ) (p : Place) → shard < length pass
      → Stands (slice_index_or pass shard p).view.seen 0 (slice_index_or pass shard p).view.made
      (flat_map (work_at s.plan.shards shard) works)
  pub fits : AllByRecursion (FitsShards s.plan.shards) works
  -- It did its duties, in order, and what the mails asked for that it took.
  pub duties : (shard : ℕ) → shard < s.plan.shards → filter_map (duty_at shard) works ≡ map duty_is s.duties
  pub mails : filter_map mail_of works ≡ filter (is_for s.plan.shards) (map (λ (p : Posted). p.mail) take.taken)
  -- What it was given at other members stands there, and was taken in or merged.
  pub givers : AllByRecursion (IsGivenBy s.plan) works
  pub gifts : ℕ → ℕ → List Gift
  pub gave : (giver shard : ℕ) (x : List Place) (p : Place) → IsOther s.plan giver → shard < s.plan.shards
      → length visits ≡ s.plan.members
      → HasGiven (identity_of (of_member s.plan giver) shard) s.plan.floor s.plan.member
      (slice_index_or (slice_index_or visits (giver - 1) x) shard p) (gifts giver shard)
  pub whats : (giver shard : ℕ) → IsOther s.plan giver → shard < s.plan.shards
      → map what_of (gifts giver shard) ≡ filter_map (gift_for giver s.plan.member) (map duty_is s.duties)
  pub got : (giver shard : ℕ) → IsOther s.plan giver → shard < s.plan.shards
      → filter_map (got_from s.plan.shards shard giver) works ≡ flat_map changes_in (gifts giver shard)
  pub merged : (shard : ℕ) (image : Image) → Among (Merged shard image) works
      → (shard < s.plan.shards) × ((giver : ℕ) × IsOther s.plan giver × Among (gift_.Image image) (gifts giver shard))
  pub spare : (x : List Place) → slice_index_or visits (s.plan.member - 1) x ≡ slice_index_or s.visits.items (s.plan.member - 1) x
  -- It took mails of its senders, of each an `End`, and sent its reports, and an `End` behind them.
  pub table : take.table ≡ s.take.table
  pub as_many : take.senders ≡ s.take.senders
  pub met : take.met ≡ s.take.met
  pub senders : AllByRecursion (λ (p : Posted). p.from < s.take.senders) take.taken
  pub ended : (k : ℕ) → k < s.take.senders → has_end (of k take.taken) ≡ true
  pub sent : HasSent s.courier (flat_map (posted_from (others_of s.plan) 0) (filter_map round_of works)) sends
