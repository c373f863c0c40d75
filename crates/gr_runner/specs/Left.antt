-- What the threads of a run leave: of each the passes, what it did and what it sent; and at each member the pass into which
-- all passes there were met.
use Rattle.std.specs.Prelude.{◌≡◌, ◌≢◌, ℕ, ◌-◌, ◌<◌, ◌==◌, ◌&&◌, Bool, List, [], Some, length, map, reverse}
use Rattle.std.specs.Prelude.{filter, flat_map, nat_le, slice_get, slice_index_or, if◌then◌else◌}
use Rattle.std.specs.List.{AllByRecursion, filter_map}
use Rattle.gr_turn.specs.Views.{times}
use Rattle.gr_history.specs.declared.image.Image.{Image}
use Rattle.gr_history.specs.declared.image.Gift.{Gift}
use Rattle.gr_history.specs.declared.image.Gift.TheVariants as gift
use Rattle.gr_history.specs.declared.record.ClientRecord.{ClientRecord}
use Rattle.gr_history.specs.declared.record.MemberRecord.{MemberRecord}
use Rattle.gr_history.specs.declared.record.Record.{Record}
use Rattle.gr_law.specs.Grids.{Among}
use Rattle.gr_peek_law.specs.Turns.{turned_each}
use Rattle.gr_post.specs.declared.mail.Posted.{Posted}
use Rattle.gr_post.specs.Mails.{of}
use Rattle.gr_post.specs.Passes.{Sending}
use Rattle.gr_post.specs.Plan.{delivered}
use Rattle.gr_script.specs.declared.line.Line.{Line}
use Rattle.gr_script.specs.Rules.{Heading, IsMember, IsStated, home_of}
use Rattle.gr_script.specs.Steps.{joins_of, steps_of}
use Rattle.gr_world.specs.Numbered.{numbers_from}
use Rattle.gr_world.specs.Served.{Served, HasReplies, answer_of, step_of}
use Rattle.gr_run_law.specs.Duties.{duty_of, gift_due}
use Rattle.gr_run_law.specs.Plans.{changes_posted, courier_of, draws_for, reports_posted}
use Rattle.gr_run_law.specs.Shares.{Owner, Client, Giver, Stands, Thread}
use Rattle.gr_run_law.specs.Threads.{FitsShards, IsFromMember, IsSenderOf, Merged, Work, client_place, duty_at, got_from, is_for, mail_of}
use Rattle.gr_run_law.specs.Threads.{member_place, round_of, work_at}
use Rattle.gr_value.specs.Lists.{StartsWith}
use Rattle.gr_member.specs.Left.{AreLeftBy}
use Rattle.gr_member.specs.Passes.{HaveAll}
use Rattle.gr_member.specs.Plans.{identity_of}
use Rattle.gr_member.specs.Seats.{Place, nowhere}
use Rattle.gr_session.specs.Sessions.{IsServedAt}
use Rattle.gr_runner.specs.Makings.{plan_of}
use Rattle.gr_session.specs.Waiting.{IsReadyFirst}
use Rattle.gr_host.specs.Joins.{changes_in, what_of}
use Rattle.gr_host.specs.Works.{HasGiven}

-- of a pass the seat and the eye at a shard
abbrev pub at_shard : List Place → ℕ → Place
at_shard pass shard = slice_index_or pass shard nowhere

-- ---- a client's thread

pub record ClientLeft : Type 0 where
  pub served : List Served
  pub pass : List Place
  pub told : ClientRecord
  pub sends : List Sending

-- It did all of the client's steps, looked once more at the end, and sent all that was to be delivered.
pub record LeavesClient (heading : Heading) (lines : List Line) (client : ℕ) (left : ClientLeft) : Type 0 where
  pub steps : map step_of left.served ≡ steps_of client lines
  pub told_is : left.told ≡ record { client = client; member = home_of heading client; answers = map answer_of left.served }
  pub replies : AllByRecursion (HasReplies heading.shards) left.served
  pub here : (shard : ℕ) → shard < heading.shards → IsServedAt client heading.shards shard (at_shard left.pass shard) left.served
  pub known : (shard : ℕ) → shard < heading.shards
      → (at_shard left.pass shard).eye.known ≡ turned_each (reverse (at_shard left.pass shard).view.seen)
  pub waited : (shard : ℕ) → shard < heading.shards → joins_of (home_of heading client) lines ≢ 0
      → IsReadyFirst (identity_of (plan_of heading (home_of heading client)) shard)
      (at_shard left.pass shard).view.seen (at_shard left.pass shard).view.made
  pub sent : (member : ℕ) (d : Sending) → IsMember heading member → (slice_index_or left.sends (member - 1) d).sent
      ≡ delivered (draws_for heading client member (changes_posted heading.shards left.served))

-- ---- a member's thread

-- The gifts are by giver and shard.
pub record HostLeft : Type 0 where
  pub works : List Work
  pub gifts : ℕ → ℕ → List Gift
  pub pass : List Place
  pub visits : List (List Place)
  pub taken : List Posted
  pub sends : List Sending

-- its pass at a member
abbrev pub visit_at : HostLeft → ℕ → ℕ → Place
visit_at left member shard = at_shard (slice_index_or left.visits (member - 1) []) shard

-- Another member gives the joiner something.
pub record IsGiver (heading : Heading) (joiner giver : ℕ) : Type 0 where
  pub stated : IsMember heading giver
  pub other : giver ≢ joiner

-- It did its duties, took in its mail, has what it was given, and sent all that was to be delivered.
pub record LeavesHost (heading : Heading) (lines : List Line) (member : ℕ) (left : HostLeft) : Type 0 where
  pub stands : (shard : ℕ) → shard < heading.shards → let view = (at_shard left.pass shard).view in
      Stands view.seen 0 view.made (flat_map (work_at heading.shards shard) left.works)
  pub fits : AllByRecursion (FitsShards heading.shards) left.works
  pub duties : (shard : ℕ) → shard < heading.shards → filter_map (duty_at shard) left.works ≡ filter_map (duty_of member) lines
  pub mails : filter_map mail_of left.works ≡ filter (is_for heading.shards) (map (λ (p : Posted). p.mail) left.taken)
  pub members : AllByRecursion (IsFromMember heading) left.works
  pub gave : (giver shard : ℕ) → IsGiver heading member giver → shard < heading.shards → joins_of member lines ≢ 0
      → HasGiven (identity_of (plan_of heading giver) shard) heading.floor member (visit_at left giver shard) (left.gifts giver shard)
  pub whats : (giver shard : ℕ) → IsGiver heading member giver → shard < heading.shards
      → map what_of (left.gifts giver shard) ≡ filter_map (gift_due giver member) lines
  pub got : (giver shard : ℕ) → IsGiver heading member giver → shard < heading.shards
      → filter_map (got_from heading.shards shard giver) left.works ≡ flat_map changes_in (left.gifts giver shard)
  pub not_own : (shard : ℕ) → shard < heading.shards → filter_map (got_from heading.shards shard member) left.works ≡ []
  pub merged : (shard : ℕ) (image : Image) → Among (Merged shard image) left.works
      → (shard < heading.shards) × ((giver : ℕ) × IsGiver heading member giver × Among (gift.Image image) (left.gifts giver shard))
  pub spare : (shard : ℕ) → shard < heading.shards → joins_of member lines ≢ 0 → (visit_at left member shard).view.made ≡ []
  pub senders : AllByRecursion (IsSenderOf heading) left.taken
  pub sent : (to : ℕ) (d : Sending) → IsMember heading to → (slice_index_or left.sends (to - 1) d).sent
      ≡ delivered (draws_for heading (courier_of member) to (reports_posted heading member (filter_map round_of left.works)))

-- ---- all threads

-- whether the client is one of the member's
abbrev pub is_client_at : Heading → ℕ → ℕ → Bool
is_client_at heading member client = nat_le 1 client && nat_le client (length heading.clients) && (home_of heading client == member)

-- the places that an owner's pass made at a shard of the member
abbrev pub places_left : Heading → List Line → (ℕ → ClientLeft) → (ℕ → HostLeft) → ℕ → ℕ → Owner → List ℕ
places_left heading lines clients hosts member shard (Client client) =
    if is_client_at heading member client then (at_shard (clients client).pass shard).view.made else []
places_left heading lines clients hosts member shard Thread = (at_shard (hosts member).pass shard).view.made
places_left heading lines clients hosts member shard (Giver joiner) =
    if joins_of joiner lines == 0 then [] else (visit_at (hosts joiner) member shard).view.made

-- The seat knows all that the passes there knew, and each place that it made is one of theirs.
pub record HasMet (heading : Heading) (lines : List Line) (clients : ℕ → ClientLeft) (hosts : ℕ → HostLeft) (member shard : ℕ)
    (desk : Place) : Type 0 where
  pub began : desk.view.opening ≡ 0
  pub of_thread : StartsWith desk.view.seen (at_shard (hosts member).pass shard).view.seen
  pub of_client : (client : ℕ) → IsStated client heading → member ≡ home_of heading client
      → StartsWith desk.view.seen (at_shard (clients client).pass shard).view.seen
  pub of_joiner : (joiner : ℕ) → joins_of joiner lines ≢ 0
      → StartsWith desk.view.seen (visit_at (hosts joiner) member shard).view.seen
  pub made : (n : ℕ) → 0 < times n desk.view.made
      → (owner : Owner) × (0 < times n (places_left heading lines clients hosts member shard owner))

-- what the record has of a member, whose pass this is
pub record IsEnded (heading : Heading) (members : List MemberRecord) (member : ℕ) (desk : List Place) : Type 0 where
  pub one : MemberRecord
  pub there : slice_get members (member - 1) ≡ Some one
  pub many : length desk ≡ heading.shards
  pub all : HaveAll desk
  pub left_by : AreLeftBy (plan_of heading member) desk one

-- The record is what is left of these threads.
pub record AreLeft (heading : Heading) (lines : List Line) (left : Record) : Type 0 where
  pub clients : ℕ → ClientLeft
  pub hosts : ℕ → HostLeft
  pub desks : ℕ → List Place
  pub each_client : (client : ℕ) → IsStated client heading → LeavesClient heading lines client (clients client)
  pub each_host : (member : ℕ) → IsMember heading member → LeavesHost heading lines member (hosts member)
  pub met : (member shard : ℕ) → IsMember heading member → shard < heading.shards
      → HasMet heading lines clients hosts member shard (at_shard (desks member) shard)
  -- Of each sender all that it sent was taken.
  pub from_clients : (client member : ℕ) (d : Sending) → IsStated client heading → IsMember heading member
      → of (client_place client) (hosts member).taken ≡ (slice_index_or (clients client).sends (member - 1) d).sent
  pub from_members : (other member : ℕ) (d : Sending) → IsMember heading other → IsMember heading member
      → of (member_place heading other) (hosts member).taken ≡ (slice_index_or (hosts other).sends (member - 1) d).sent
  -- the record
  pub numbered : map (λ one. one.member) left.members ≡ numbers_from 1 heading.members (λ member. member)
  pub ended : (member : ℕ) → IsMember heading member → IsEnded heading left.members member (desks member)
  pub told : left.clients ≡ numbers_from 1 (length heading.clients) (λ client. (clients client).told)
