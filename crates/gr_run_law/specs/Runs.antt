-- Which records a run may leave.
use Rattle.std.specs.Prelude.{◌≡◌, ◌≢◌, ℕ, ◌+◌, ◌<◌, List, ◌∷◌, Bool, true, length, map, reverse, count_by, slice_get}
use Rattle.std.specs.List.{AllByRecursion, filter_map}
use Rattle.gr_stamp.specs.declared.change.Change.{Change}
use Rattle.gr_vector.specs.declared.report.Report.{Report}
use Rattle.gr_history.specs.declared.deed.Deed.{Deed}
use Rattle.gr_history.specs.declared.record.ClientRecord.{ClientRecord}
use Rattle.gr_history.specs.declared.record.Record.{Record}
use Rattle.gr_history.specs.Recipients.{has_image}
use Rattle.gr_history.specs.Deeds.{taken_in}
use Rattle.gr_law.specs.Grids.{Older}
use Rattle.gr_law.specs.Integrity.{IsWhole}
use Rattle.gr_post.specs.Laws.{owed}
use Rattle.gr_script.specs.declared.line.Line.{Line}
use Rattle.gr_script.specs.Rules.{Heading, IsMember}
use Rattle.gr_script.specs.Steps.{joins_of}
use Rattle.gr_world.specs.Grids.{Histories, grid_from}
use Rattle.gr_world.specs.Numbered.{numbers_from}
use Rattle.gr_world.specs.Records.{HasRegions}
use Rattle.gr_world.specs.Served.{histories_in, Served, AreServed}
use Rattle.gr_run_law.specs.Duties.{duty_in, duty_of, gift_in, gift_due, given_to, heard_in, reported_in, is_step}
use Rattle.gr_run_law.specs.Plans.{changes_posted, reports_posted, total_to, courier_of, draws_for, brings_change, brings_report}

-- ---- the five clauses

-- 1. The reports, sweeps and images of a history are, in order, those of the member's lines.
abbrev pub DoesDuties : Heading → List Line → Histories → Type 0
DoesDuties heading lines histories = (member shard : ℕ) → IsMember heading member → shard < heading.shards
    → filter_map duty_in (reverse (histories member shard)) ≡ filter_map (duty_of member) lines

-- 2. What a member gave a joiner is what the joiner's line has it give.
abbrev pub GivesGifts : Heading → List Line → Histories → Type 0
GivesGifts heading lines histories = (giver joiner shard : ℕ) → IsMember heading giver → shard < heading.shards
    → filter_map (gift_in joiner) (reverse (histories giver shard)) ≡ filter_map (gift_due giver joiner) lines

-- 3. At a member that joins, clients' steps come once the image was merged.
abbrev pub WaitsForImage : Heading → List Line → Histories → Type 0
WaitsForImage heading lines histories = (member shard : ℕ) → shard < heading.shards → joins_of member lines ≢ 0
    → (deed : Deed) (past : List Deed) → Older (deed ∷ past) (histories member shard) → is_step deed ≡ true
    → has_image past ≡ true

-- 4. The changes that a member took in: those of the gifts of own changes to it, and those of all clients, each as often
-- as the plan of the client's courier brings it to this member.
abbrev pub TakesChanges : Heading → Histories → (ℕ → List Served) → Type 0
TakesChanges heading histories served = (member shard : ℕ) (test : Change → Bool) → IsMember heading member → shard < heading.shards
    → count_by test (filter_map taken_in (reverse (histories member shard)))
    ≡ total_to heading.members (λ giver. count_by test (given_to member (histories giver shard)))
    + total_to (length heading.clients) (λ client.
    owed (brings_change shard test) (draws_for heading client member (changes_posted heading.shards (served client))))

-- 5. The reports that a member heard: those of all members, each as often as the plan of that member's courier brings it.
abbrev pub HearsReports : Heading → Histories → (ℕ → List (List Report)) → Type 0
HearsReports heading histories rounds = (member shard : ℕ) (test : Report → Bool) → IsMember heading member → shard < heading.shards
    → count_by test (filter_map heard_in (reverse (histories member shard)))
    ≡ total_to heading.members (λ other.
    owed (brings_report shard test) (draws_for heading (courier_of other) member (reports_posted heading other (rounds other))))

-- what a member reported: at each of its `report` lines the reports of all its shards
abbrev pub AreRounds : Heading → Histories → (ℕ → List (List Report)) → Type 0
AreRounds heading histories rounds = (member : ℕ) → IsMember heading member
    → AllByRecursion (λ reports. length reports ≡ heading.shards) (rounds member)
    × ((shard : ℕ) → shard < heading.shards
    → filter_map reported_in (reverse (histories member shard))
    ≡ filter_map (λ reports. slice_get reports shard) (rounds member))

-- The histories have integrity, clients were served in them, and members did what their lines and their mail have them do.
pub record IsRun (heading : Heading) (lines : List Line) (histories : Histories) (records : List ClientRecord) : Type 0 where
  pub whole : (shard : ℕ) → shard < heading.shards → IsWhole (grid_from heading histories shard)
  pub clients : AreServed heading lines histories records
  pub duties : DoesDuties heading lines histories
  pub gifts : GivesGifts heading lines histories
  pub waits : WaitsForImage heading lines histories
  pub takings : TakesChanges heading histories clients.served
  pub rounds : ℕ → List (List Report)
  pub reported : AreRounds heading histories rounds
  pub hearings : HearsReports heading histories rounds

-- The record of a run has all members in order, and of each shard what stands after its history.
pub record IsLawfulRun (heading : Heading) (lines : List Line) (left : Record) : Type 0 where
  pub members : map (λ one. one.member) left.members ≡ numbers_from 1 heading.members (λ member. member)
  pub shards : AllByRecursion (λ one. length one.shards ≡ heading.shards) left.members
  pub regions : AllByRecursion (HasRegions heading.floor) left.members
  pub run : IsRun heading lines (histories_in left) left.clients
