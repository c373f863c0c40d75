-- What comes of a join: what the joiner does at its own pass, and what the other members give it.
use Rattle.std.specs.Prelude.{◌≡◌, ℕ, ◌-◌, ◌<◌, ◌==◌, List, [], ◌∷◌, Bool, true, false, length, slice_index_or, map, flat_map}
use Rattle.std.specs.Prelude.{if◌then◌else◌}
use Rattle.std.specs.List.{AllByRecursion, filter_map}
use Rattle.gr_value.specs.Shard.{shard_of}
use Rattle.gr_stamp.specs.declared.change.Change.{Change}
use Rattle.gr_history.specs.declared.deed.Deed.{Deed}
use Rattle.gr_history.specs.declared.deed.Deed.TheVariants.{Taken, Imaged}
use Rattle.gr_history.specs.declared.identity.Identity.{Identity}
use Rattle.gr_history.specs.declared.image.Gift.{Gift}
use Rattle.gr_history.specs.declared.image.Gift.TheVariants as gift_
use Rattle.gr_history.specs.declared.image.Image.{Image}
use Rattle.gr_history.specs.declared.image.What.{What}
use Rattle.gr_history.specs.declared.image.What.TheVariants as what
use Rattle.gr_history.specs.declared.verdict.Verdict.{Verdict}
use Rattle.gr_law.specs.Grids.{Among}
use Rattle.gr_world.specs.Courses.{what_from}
use Rattle.gr_run_law.specs.Duties.{Joins}
use Rattle.gr_run_law.specs.Threads.{Work, GotFrom, Merged, FitsShards, deed_if, duty_at, got_from, mail_of, round_of, work_at}
use Rattle.gr_member.specs.declared.plan.Plan.{Plan}
use Rattle.gr_member.specs.Plans.{identity_of}
use Rattle.gr_member.specs.Seats.{Place, Gives}
use Rattle.gr_member.specs.Passes.{AddsAt}
use Rattle.gr_session.specs.Steps.{AddsEach}
use Rattle.gr_host.specs.Houses.{IsOther, of_member}

-- the changes that a gift brings
abbrev pub changes_in : Gift → List Change
changes_in (gift_.Image image) = []
changes_in (gift_.Own changes) = changes

-- what was given
abbrev pub what_of : Gift → What
what_of (gift_.Image image) = what.Image
what_of (gift_.Own changes) = what.Own

-- What is given comes from another member.
abbrev pub IsGivenBy : Plan → Work → Type 0
IsGivenBy plan (GotFrom giver change verdict) = IsOther plan giver
IsGivenBy plan _ = Unit {0}

-- ---- one gift

-- the deed of a change that was taken in, at a shard
abbrev pub taken_at : ℕ → ℕ → Change × Verdict → List Deed
taken_at shards shard told = deed_if (shard == shard_of told.0.key shards) (Taken told.0 told.1)

-- These changes were taken in, one after the other.
pub record TakesEach (shards : ℕ) (changes : List Change) (p q : List Place) : Type 0 where
  pub told : List (Change × Verdict)
  pub of_changes : map (λ one. one.0) told ≡ changes
  pub many : length q ≡ length p
  pub adds : (shard : ℕ) (s : Place) → shard < length p
      → AddsEach (slice_index_or p shard s) (flat_map (taken_at shards shard) told) (slice_index_or q shard s)

-- The gift was received: an image is merged at the shard, and own changes are taken in.
abbrev pub Receives : ℕ → ℕ → Gift → List Place → List Place → Type 0
Receives shards shard (gift_.Image image) p q = AddsAt shard p (Imaged image) q
Receives shards shard (gift_.Own changes) p q = TakesEach shards changes p q

-- The gift was given, where it was due; else the seat is as it was.
abbrev pub GivesIf : Bool → Identity → ℕ → Place → ℕ → What → Gift → Place → Type 0
GivesIf true id opening s to what gift t = Gives id opening s to what gift t
GivesIf false id opening s to what gift t = t ≡ s

-- ---- all gifts

-- What comes of a join by this provider, or of the part of it that is due, by giver and shard: works at the joiner's own pass p,
-- which is then q, and gifts of other members by the passes v there, which are then w.
pub record HasJoinedWhere (due : ℕ → ℕ → Bool) (plan : Plan) (from : ℕ) (p q : List Place) (v w : List (List Place))
    (works : List Work) : Type 0 where
  pub many : length q ≡ length p
  pub adds : (shard : ℕ) (s : Place) → shard < plan.shards
      → AddsEach (slice_index_or p shard s) (flat_map (work_at plan.shards shard) works) (slice_index_or q shard s)
  pub fits : AllByRecursion (FitsShards plan.shards) works
  pub duties : (shard : ℕ) → shard < plan.shards
      → filter_map (duty_at shard) works ≡ (if due from shard then Joins from ∷ [] else [])
  pub no_mail : filter_map mail_of works ≡ []
  pub no_round : filter_map round_of works ≡ []
  pub givers : AllByRecursion (IsGivenBy plan) works
  -- Each other member gave this at each shard,
  pub gift : ℕ → ℕ → Gift
  pub gives : (giver shard : ℕ) (x : List Place) (s : Place) → IsOther plan giver → shard < plan.shards
      → GivesIf (due giver shard) (identity_of (of_member plan giver) shard) plan.floor
      (slice_index_or (slice_index_or v (giver - 1) x) shard s) plan.member (what_from (giver == from)) (gift giver shard)
      (slice_index_or (slice_index_or w (giver - 1) x) shard s)
  -- but the joiner gave itself nothing.
  pub unused : (x : List Place) → slice_index_or w (plan.member - 1) x ≡ slice_index_or v (plan.member - 1) x
  pub got : (giver shard : ℕ) → IsOther plan giver → shard < plan.shards
      → filter_map (got_from plan.shards shard giver) works ≡ (if due giver shard then changes_in (gift giver shard) else [])
  pub merged : (shard : ℕ) (image : Image) → Among (Merged shard image) works
      → (shard < plan.shards) × (gift from shard ≡ gift_.Image image) × (due from shard ≡ true)

abbrev pub JoinedWhere : (ℕ → ℕ → Bool) → Plan → ℕ → List Place → List Place → List (List Place) → List (List Place) → Type 0
JoinedWhere due plan from p q v w = (works : List Work) × HasJoinedWhere due plan from p q v w works

-- the whole of it
abbrev pub HasJoined : Plan → ℕ → List Place → List Place → List (List Place) → List (List Place) → List Work → Type 0
HasJoined = HasJoinedWhere (λ giver shard. true)

abbrev pub Joined : Plan → ℕ → List Place → List Place → List (List Place) → List (List Place) → Type 0
Joined plan from p q v w = (works : List Work) × HasJoined plan from p q v w works
