-- What a member's thread did between two moments.
use Rattle.std.specs.Prelude.{◌≡◌, ℕ, ◌-◌, ◌<◌, ◌==◌, List, [], ◌∷◌, ◌++◌, length, map, flat_map, reverse, slice_get}
use Rattle.std.specs.Prelude.{slice_index_or, Option, Some, None, if◌then◌else◌}
use Rattle.std.specs.List.{AllByRecursion, filter_map}
use Rattle.gr_value.specs.Lists.{StartsWith}
use Rattle.gr_law.specs.Grids.{Among}
use Rattle.gr_history.specs.declared.deed.Deed.{Deed}
use Rattle.gr_history.specs.declared.deed.Deed.TheVariants.{Gave, Reported, Swept}
use Rattle.gr_history.specs.declared.identity.Identity.{Identity}
use Rattle.gr_history.specs.declared.image.Gift.{Gift}
use Rattle.gr_history.specs.declared.image.Gift.TheVariants as gift_
use Rattle.gr_history.specs.declared.image.Image.{Image}
use Rattle.gr_history.specs.declared.image.What.{What}
use Rattle.gr_history.specs.Gifts.{IsGiftOf}
use Rattle.gr_history.specs.declared.verdict.Verdict.{Verdict}
use Rattle.gr_vector.specs.declared.report.Report.{Report}
use Rattle.gr_post.specs.declared.mail.Mail.{Mail}
use Rattle.gr_post.specs.declared.mail.Posting.{Posting}
use Rattle.gr_world.specs.Courses.{what_from}
use Rattle.gr_run_law.specs.Plans.{posted_from}
use Rattle.gr_run_law.specs.Duties.{Duty, Reports, Sweeps, Joins}
use Rattle.gr_run_law.specs.Shares.{Stands}
use Rattle.gr_run_law.specs.Threads.{Work, Merged, FitsShards, duty_at, got_from, work_at}
use Rattle.gr_member.specs.declared.plan.Plan.{Plan}
use Rattle.gr_member.specs.Plans.{identity_of}
use Rattle.gr_member.specs.Seats.{Place}
use Rattle.gr_member.specs.Passes.{TurnsAll}
use Rattle.gr_session.specs.Steps.{AddsEach}
use Rattle.gr_host.specs.declared.duties.Duty.{Duty as Line}
use Rattle.gr_host.specs.declared.duties.Duty.TheVariants as line
use Rattle.gr_host.specs.Houses.{IsOther, of_member}
use Rattle.gr_host.specs.Joins.{IsGivenBy, changes_in, what_of}
use Rattle.gr_host.specs.Mails.{others_of, works_of}

-- the duty that a line states
abbrev pub duty_is : Line → Duty
duty_is line.Report = Reports
duty_is (line.Sweep moment) = Sweeps moment
duty_is (line.Join from) = Joins from

-- What a member gives a joiner by a duty of that one: the provider its image, each other member its own changes.
abbrev pub gift_for : ℕ → ℕ → Duty → Option What
gift_for giver joiner (Joins from) = if giver == joiner then None else Some (what_from (giver == from))
gift_for giver joiner _ = None

-- the deed of a gift to the joiner
abbrev pub gift_deed : ℕ → Gift → Deed
gift_deed joiner gift = Gave joiner (what_of gift)

-- ---- at one shard

-- What stood at the places of a seat stands there, and these deeds behind it.
abbrev pub StandMore : Place → List Deed → Place → Type 0
StandMore s deeds t = (before : List Deed) → Stands s.view.seen 0 s.view.made before → Stands t.view.seen 0 t.view.made (before ++ deeds)

-- a gift in what the giver's pass has seen
pub record IsGivenIn (id : Identity) (opening joiner : ℕ) (seen : List Deed) (gift : Gift) : Type 0 where
  pub before : List Deed
  pub begins : StartsWith seen (before ++ gift_deed joiner gift ∷ [])
  pub is_gift : IsGiftOf id.member opening (reverse before) (what_of gift) gift

-- what a member gave at a shard, gift by gift
pub record HasGiven (id : Identity) (opening joiner : ℕ) (s : Place) (gifts : List Gift) : Type 0 where
  pub stands : Stands s.view.seen 0 s.view.made (map (gift_deed joiner) gifts)
  pub each : AllByRecursion (IsGivenIn id opening joiner s.view.seen) gifts

-- It gave these gifts more.
pub record GivesMore (id : Identity) (opening joiner : ℕ) (s : Place) (gifts : List Gift) (t : Place) : Type 0 where
  pub knows : StartsWith t.view.seen s.view.seen
  pub stand : StandMore s (map (gift_deed joiner) gifts) t
  pub each : AllByRecursion (IsGivenIn id opening joiner t.view.seen) gifts

-- ---- of one step

-- What comes of a mail at the thread's own pass.
abbrev pub Follows : ℕ → Mail → List Place → List Place → Type 0
Follows shards mail p q = (told : Verdict) × ((shard : ℕ) (s : Place) → shard < length p
    → AddsEach (slice_index_or p shard s) (flat_map (work_at shards shard) (works_of shards told mail)) (slice_index_or q shard s))

-- A report was added at each shard, and each was posted to all other members, that of shard 0 first.
pub record HasReported (plan : Plan) (p q : List Place) (posted now : List Posting) : Type 0 where
  pub reports : List Report
  pub turns : TurnsAll Reported p reports q
  pub posts : now ≡ posted ++ posted_from (others_of plan) 0 reports

-- The report of the shard was posted to these members.
abbrev pub PostsReport : ℕ → ℕ → List Report → List Posting → List Posting → Type 0
PostsReport to shard reports posted now = (report : Report) × (slice_get reports shard ≡ Some report)
    × (now ≡ posted ++ posted_from to shard (report ∷ []))

-- A sweep was added at each shard.
abbrev pub HasSwept : ℕ → List Place → List Place → Type 0
HasSwept moment p q = (expired : List (List (List ℕ))) × TurnsAll (Swept moment) p expired q

-- ---- at all

-- These works were done, for these duties: at the thread's own pass p, which is then q, and by the passes v at each member, which
-- are then w.
pub record HasDone (plan : Plan) (duties : List Duty) (p q : List Place) (v w : List (List Place)) (works : List Work) : Type 0 where
  pub stand : (shard : ℕ) (s : Place) → shard < plan.shards
      → StandMore (slice_index_or p shard s) (flat_map (work_at plan.shards shard) works) (slice_index_or q shard s)
  pub fits : AllByRecursion (FitsShards plan.shards) works
  pub duties_are : (shard : ℕ) → shard < plan.shards → filter_map (duty_at shard) works ≡ duties
  pub givers : AllByRecursion (IsGivenBy plan) works
  pub gifts : ℕ → ℕ → List Gift
  pub gave : (giver shard : ℕ) (x : List Place) (s : Place) → IsOther plan giver → shard < plan.shards
      → GivesMore (identity_of (of_member plan giver) shard) plan.floor plan.member
      (slice_index_or (slice_index_or v (giver - 1) x) shard s)
      (gifts giver shard) (slice_index_or (slice_index_or w (giver - 1) x) shard s)
  pub whats : (giver shard : ℕ) → IsOther plan giver → shard < plan.shards
      → map what_of (gifts giver shard) ≡ filter_map (gift_for giver plan.member) duties
  pub got : (giver shard : ℕ) → IsOther plan giver → shard < plan.shards
      → filter_map (got_from plan.shards shard giver) works ≡ flat_map changes_in (gifts giver shard)
  pub merged : (shard : ℕ) (image : Image) → Among (Merged shard image) works
      → (shard < plan.shards) × ((giver : ℕ) × IsOther plan giver × Among (gift_.Image image) (gifts giver shard))
  pub spare : (x : List Place) → slice_index_or w (plan.member - 1) x ≡ slice_index_or v (plan.member - 1) x
