-- What the threads of a run leave: who added what to which history, and what came of each mail.
use Rattle.std.specs.Prelude.{◌≡◌, ◌≢◌, ◌⊎◌, ℕ, suc, ◌+◌, ◌-◌, ◌≤◌, ◌<◌, List, [], ◌∷◌, ◌==◌, ◌&&◌, Bool, true, false, Option, Some, None}
use Rattle.std.specs.Prelude.{length, map, max}
use Rattle.std.specs.Prelude.{nat_lt, filter, reverse, slice_get, flat_map, if◌then◌else◌}
use Rattle.std.specs.List.{AllByRecursion, filter_map}
use Rattle.gr_value.specs.Shard.{shard_of}
use Rattle.gr_stamp.specs.declared.change.Change.{Change}
use Rattle.gr_vector.specs.declared.report.Report.{Report}
use Rattle.gr_turn.specs.Views.{times}
use Rattle.gr_history.specs.Asks.{key_of}
use Rattle.gr_history.specs.declared.deed.Deed.{Deed}
use Rattle.gr_history.specs.declared.deed.Deed.TheVariants.{Taken, Gave, Imaged, Reported, Heard, Swept}
use Rattle.gr_history.specs.declared.image.Image.{Image}
use Rattle.gr_history.specs.declared.verdict.Verdict.{Verdict}
use Rattle.gr_history.specs.Lawful.{IsLawful}
use Rattle.gr_history.specs.Recipients.{has_image}
use Rattle.gr_history.specs.Standing.{present}
use Rattle.gr_history.specs.declared.record.Record.{Record}
use Rattle.gr_law.specs.Grids.{Among, Older, at_place, identity}
use Rattle.gr_law.specs.Integrity.{IsGift}
use Rattle.gr_post.specs.declared.mail.Mail.{Mail}
use Rattle.gr_post.specs.declared.mail.Mail.TheVariants as mail
use Rattle.gr_post.specs.declared.mail.Posted.{Posted}
use Rattle.gr_post.specs.Mails.{of}
use Rattle.gr_post.specs.Plan.{delivered}
use Rattle.gr_script.specs.declared.line.Line.{Line}
use Rattle.gr_script.specs.Rules.{Heading, IsMember, IsStated, home_of}
use Rattle.gr_script.specs.Steps.{steps_of, joins_of}
use Rattle.gr_world.specs.Grids.{Histories, grid_from}
use Rattle.gr_world.specs.Numbered.{numbers_from}
use Rattle.gr_world.specs.Records.{HasRegions}
use Rattle.gr_world.specs.Events.{Peek}
use Rattle.gr_world.specs.Served.{histories_in, Served, Called, Queried, Looked, step_of, all_deeds_of, HasReplies, client_of}
use Rattle.gr_run_law.specs.Shares.{Owner, Client, Thread, Giver, AreShared}
use Rattle.gr_run_law.specs.Duties.{Duty, Reports, Sweeps, Joins, duty_of, gift_due, given_to}
use Rattle.gr_run_law.specs.Plans.{changes_posted, reports_posted, courier_of, draws_for}

-- ---- a client's session

-- behind the first of the places, where a deed stands there
abbrev pub behind_first : Bool → ℕ → List ℕ → ℕ
behind_first true low [] = low
behind_first true low (p ∷ ps) = max low (suc p)
behind_first false low ps = low

-- the places without the first, where a deed stands there
abbrev pub rest_if : Bool → List ℕ → List ℕ
rest_if true [] = []
rest_if true (p ∷ ps) = ps
rest_if false ps = ps

-- at the place of a peek, where it is at the shard
abbrev pub seen_if : Bool → ℕ → ℕ → ℕ
seen_if true low at = at
seen_if false low at = low

-- Each peek at the shard looks behind the session's own deeds that stand before it, and not before its earlier peeks. The
-- places are those of its deeds, in order; all is from `low` on.
abbrev pub LooksFit : ℕ → ℕ → ℕ → List ℕ → List Served → Type 0
LooksFit shards shard low ps [] = Unit {0}
LooksFit shards shard low ps (Called number ask reply made to ∷ served) =
    let here = shard == shard_of (key_of ask) shards in
    LooksFit shards shard (behind_first here low ps) (rest_if here ps) served
LooksFit shards shard low ps (Queried number ask replies ∷ served) =
    LooksFit shards shard (behind_first true low ps) (rest_if true ps) served
LooksFit shards shard low ps (Looked number peek ∷ served) =
    (shard ≡ shard_of peek.key shards → low ≤ peek.at)
    × LooksFit shards shard (seen_if (shard == shard_of peek.key shards) low peek.at) ps served

-- A peek tells what was present at a place of the history.
pub record IsLook (peek : Peek) (history : List Deed) : Type 0 where
  pub within : peek.at ≤ length history
  pub value_is : peek.value ≡ present peek.key (at_place peek.at history)

-- The history was ready at some place, and the session's deeds stand behind it.
pub record IsReadyBefore (history : List Deed) (places : List ℕ) : Type 0 where
  pub past : List Deed
  pub older : Older past history
  pub ready : has_image past ≡ true
  pub later : (place : ℕ) → 0 < times place places → length past ≤ place

-- What a session leaves: its steps with what came of them, and at each shard of its member its deeds, at its places.
pub record IsSession (heading : Heading) (lines : List Line) (histories : Histories) (client : ℕ) (served : List Served)
    (owned : ℕ → List Deed) (places : ℕ → List ℕ) : Type 0 where
  pub steps : map step_of served ≡ steps_of client lines
  pub replies : AllByRecursion (HasReplies heading.shards) served
  pub deeds : (shard : ℕ) → shard < heading.shards → owned shard ≡ all_deeds_of client heading.shards shard served
  -- Its peeks look behind its deeds, and tell what was present.
  pub looks : (shard : ℕ) → shard < heading.shards → LooksFit heading.shards shard 0 (places shard) served
  pub told : (number : ℕ) (peek : Peek) → Among (Looked number peek) served
      → IsLook peek (histories (home_of heading client) (shard_of peek.key heading.shards))
  -- At a member that joins it waited until the image was merged.
  pub ready : (shard : ℕ) → shard < heading.shards → joins_of (home_of heading client) lines ≢ 0
      → IsReadyBefore (histories (home_of heading client) shard) (places shard)

-- ---- a member's thread

-- What it does: it takes in a change that came by mail to a shard, hears a report that came by mail to a shard, reports at
-- each shard, sweeps each shard at a moment, merges an image at a shard, or takes in a change that a member gave.
pub data Work : Type 0 where
  TookIn : ℕ → Change → Verdict → Work
  HeardOf : ℕ → Report → Work
  ReportedAll : List Report → Work
  SweptAll : ℕ → List (List (List ℕ)) → Work
  Merged : ℕ → Image → Work
  GotFrom : ℕ → Change → Verdict → Work

abbrev pub deed_if : Bool → Deed → List Deed
deed_if true deed = deed ∷ []
deed_if false deed = []

abbrev pub report_deed : Option Report → List Deed
report_deed None = []
report_deed (Some report) = Reported report ∷ []

abbrev pub sweep_deed : ℕ → Option (List (List ℕ)) → List Deed
sweep_deed moment None = []
sweep_deed moment (Some expired) = Swept moment expired ∷ []

-- the deeds that it leaves at a shard
abbrev pub work_at : ℕ → ℕ → Work → List Deed
work_at shards shard (TookIn at change verdict) = deed_if (shard == shard_of change.key shards) (Taken change verdict)
work_at shards shard (HeardOf at report) = deed_if (shard == at) (Heard report)
work_at shards shard (ReportedAll reports) = report_deed (slice_get reports shard)
work_at shards shard (SweptAll moment expired) = sweep_deed moment (slice_get expired shard)
work_at shards shard (Merged at image) = deed_if (shard == at) (Imaged image)
work_at shards shard (GotFrom giver change verdict) = deed_if (shard == shard_of change.key shards) (Taken change verdict)

-- Reports and sweeps are of all shards, and what is heard or merged is at one that there is.
abbrev pub FitsShards : ℕ → Work → Type 0
FitsShards shards (HeardOf at report) = at < shards
FitsShards shards (ReportedAll reports) = length reports ≡ shards
FitsShards shards (SweptAll moment expired) = length expired ≡ shards
FitsShards shards (Merged at image) = at < shards
FitsShards shards _ = Unit {0}

-- the duty that it carries out, seen at a shard
abbrev pub duty_at : ℕ → Work → Option Duty
duty_at shard (ReportedAll reports) = Some Reports
duty_at shard (SweptAll moment expired) = Some (Sweeps moment)
duty_at shard (Merged at image) = if shard == at then Some (Joins image.from) else None
duty_at shard _ = None

-- the mail that it came by
abbrev pub mail_of : Work → Option Mail
mail_of (TookIn at change verdict) = Some (mail.Change at change)
mail_of (HeardOf at report) = Some (mail.Report at report)
mail_of _ = None

-- whether a thread does something about a mail
abbrev pub is_for : ℕ → Mail → Bool
is_for shards (mail.Change at change) = true
is_for shards (mail.Report at report) = nat_lt at shards
is_for shards mail.End = false

-- the reports that it has others told
abbrev pub round_of : Work → Option (List Report)
round_of (ReportedAll reports) = Some reports
round_of _ = None

-- the change that the member gave, at the shard
abbrev pub got_from : ℕ → ℕ → ℕ → Work → Option Change
got_from shards shard giver (GotFrom from change verdict) =
    if shard == shard_of change.key shards && from == giver then Some change else None
got_from shards shard giver _ = None

-- What is given comes from a member.
abbrev pub IsFromMember : Heading → Work → Type 0
IsFromMember heading (GotFrom giver change verdict) = IsMember heading giver
IsFromMember heading _ = Unit {0}

-- What a member's thread leaves. `taken` is all that it took out of its inbox, each mail with the place of its sender.
pub record IsThread (heading : Heading) (lines : List Line) (histories : Histories) (member : ℕ) (works : List Work)
    (taken : List Posted) (owned : ℕ → List Deed) : Type 0 where
  pub deeds : (shard : ℕ) → shard < heading.shards → owned shard ≡ flat_map (work_at heading.shards shard) works
  pub shards : AllByRecursion (FitsShards heading.shards) works
  -- It did its duties, in order,
  pub duties : (shard : ℕ) → shard < heading.shards → filter_map (duty_at shard) works ≡ filter_map (duty_of member) lines
  -- and took in all mails, in order, but the `End`s and any report of a shard that there isn't.
  pub mails : filter_map mail_of works ≡ filter (is_for heading.shards) (map (λ (p : Posted). p.mail) taken)
  -- It took in the changes of all gifts, and merged images that were given.
  pub members : AllByRecursion (IsFromMember heading) works
  pub given : (giver shard : ℕ) → IsMember heading giver → shard < heading.shards
      → filter_map (got_from heading.shards shard giver) works ≡ given_to member (histories giver shard)
  pub merged : (shard : ℕ) (image : Image) → Among (Merged shard image) works
      → (heading.founders < member) × IsGift (grid_from heading histories shard) member image

-- ---- mail

-- the places of the senders at each inbox: clients, and behind them members
abbrev pub client_place : ℕ → ℕ
client_place client = client - 1

abbrev pub member_place : Heading → ℕ → ℕ
member_place heading member = length heading.clients + (member - 1)

abbrev pub IsSenderOf : Heading → Posted → Type 0
IsSenderOf heading posted = posted.from < length heading.clients + heading.members

-- What was taken of each sender is all that its courier delivers by the plan, the `End` too.
pub record IsMailed (heading : Heading) (served : ℕ → List Served) (works : ℕ → List Work) (member : ℕ)
    (taken : List Posted) : Type 0 where
  pub senders : AllByRecursion (IsSenderOf heading) taken
  pub of_clients : (client : ℕ) → IsStated client heading
      → of (client_place client) taken ≡ delivered (draws_for heading client member (changes_posted heading.shards (served client)))
  pub of_members : (other : ℕ) → IsMember heading other
      → of (member_place heading other) taken
      ≡ delivered (draws_for heading (courier_of other) member (reports_posted heading other (filter_map round_of (works other))))

-- ---- all threads

-- who adds deeds at a member: clients at their own member, and joiners what the member gives
pub record IsWrittenBy (heading : Heading) (lines : List Line) (member : ℕ) (owned : Owner → List Deed) : Type 0 where
  pub clients : (client : ℕ) → (IsStated client heading × (member ≡ home_of heading client)) ⊎ (owned (Client client) ≡ [])
  pub givers : (joiner : ℕ) → owned (Giver joiner) ≡ map (λ what. Gave joiner what) (filter_map (gift_due member joiner) lines)

-- These histories, and what clients were served, are left by sessions and members' threads.
pub record AreLeftByThreads (heading : Heading) (lines : List Line) (histories : Histories) (served : ℕ → List Served) : Type 0 where
  -- Each member's histories are lawful, and nobody else has one.
  pub lawful : (member shard : ℕ) → IsMember heading member → shard < heading.shards
      → IsLawful (identity (grid_from heading histories shard) member) heading.floor (histories member shard)
  pub outside : (member shard : ℕ) → IsMember heading member ⊎ (histories member shard ≡ [])
  -- Each history is what its owners added.
  pub owned : ℕ → ℕ → Owner → List Deed
  pub places : ℕ → ℕ → Owner → List ℕ
  pub shared : (member shard : ℕ) → IsMember heading member → shard < heading.shards
      → AreShared (reverse (histories member shard)) (owned member shard) (places member shard)
  pub written : (member shard : ℕ) → IsMember heading member → shard < heading.shards
      → IsWrittenBy heading lines member (owned member shard)
  -- What sessions and threads did,
  pub works : ℕ → List Work
  pub taken : ℕ → List Posted
  pub sessions : (client : ℕ) → IsStated client heading
      → IsSession heading lines histories client (served client) (λ shard. owned (home_of heading client) shard (Client client))
      (λ shard. places (home_of heading client) shard (Client client))
  pub threads : (member : ℕ) → IsMember heading member
      → IsThread heading lines histories member (works member) (taken member) (λ shard. owned member shard Thread)
  -- and what mail came.
  pub mailed : (member : ℕ) → IsMember heading member → IsMailed heading served works member (taken member)

-- ---- records

-- The record has what threads left: members with their shards in order, of each shard what stands after its history, and
-- of each client what it was told.
pub record IsLeftByThreads (heading : Heading) (lines : List Line) (left : Record) : Type 0 where
  pub served : ℕ → List Served
  pub members : map (λ one. one.member) left.members ≡ numbers_from 1 heading.members (λ member. member)
  pub shards : AllByRecursion (λ one. length one.shards ≡ heading.shards) left.members
  pub regions : AllByRecursion (HasRegions heading.floor) left.members
  pub clients : left.clients ≡ numbers_from 1 (length heading.clients) (client_of heading served)
  pub threads : AreLeftByThreads heading lines (histories_in left) served
