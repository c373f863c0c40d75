-- What threads are given.
use Rattle.std.specs.Prelude.{◌≡◌, ◌≢◌, ℕ, suc, ◌+◌, ◌-◌, ◌<◌, true, List, [], ◌∷◌, length, map, slice_index_or}
use Rattle.std.specs.List.{filter_map}
use Rattle.gr_script.specs.declared.line.Line.{Line}
use Rattle.gr_script.specs.Rules.{Heading, home_of}
use Rattle.gr_script.specs.Steps.{joins_of, steps_of}
use Rattle.gr_post.specs.Couriers.{Carrying, begun}
use Rattle.gr_post.specs.Passes.{Ring, Sending, Taking, taker_of}
use Rattle.gr_post.specs.Plan.{first_number}
use Rattle.gr_run_law.specs.Duties.{duty_of}
use Rattle.gr_run_law.specs.Plans.{courier_of}
use Rattle.gr_run_law.specs.Threads.{client_place, member_place}
use Rattle.gr_host.specs.Ends.{AreEnds}
use Rattle.gr_host.specs.Works.{duty_is}
use Rattle.gr_runner.specs.declared.kits.Kits.{Kits}
use Rattle.gr_runner.specs.declared.slots.ClientKit.{ClientKit}
use Rattle.gr_runner.specs.declared.slots.MemberKit.{MemberKit}
use Rattle.gr_runner.specs.Mailing.{AreSendersOf, HaveSenders}
use Rattle.gr_runner.specs.Makings.{plan_of}

-- ---- one thread

-- What a client's thread is given. It waits where a line has its member join.
pub record IsClientKit (h : Heading) (lines : List Line) (rings : List Ring) (client : ℕ) (kit : ClientKit) : Type 0 where
  pub number : kit.client ≡ client
  pub plan_is : kit.plan ≡ plan_of h (home_of h client)
  pub waits_where : joins_of (home_of h client) lines ≢ 0 → kit.waits ≡ true
  pub waits_only : kit.waits ≡ true → joins_of (home_of h client) lines ≢ 0
  pub steps_are : kit.steps ≡ steps_of client lines
  pub passes : List Sending
  pub its : AreSendersOf rings (client_place client) passes
  pub carries : kit.courier ≡ begun passes (first_number h.trouble client)

-- What a member's thread is given.
pub record IsMemberKit (h : Heading) (lines : List Line) (rings : List Ring) (member : ℕ) (kit : MemberKit) : Type 0 where
  pub plan_is : kit.plan ≡ plan_of h member
  pub duties_are : map duty_is kit.duties ≡ filter_map (duty_of member) lines
  pub take_is : (r : Ring) → kit.take ≡ taker_of (slice_index_or rings (member - 1) r).table (length h.clients + h.members)
  pub passes : List Sending
  pub its : AreSendersOf rings (member_place h member) passes
  pub carries : kit.courier ≡ begun passes (first_number h.trouble (courier_of member))
  pub ends_are : AreEnds (length h.clients + h.members) [] kit.ends

-- ---- all threads

-- There is one for each client and for each member, that of the first one first.
pub record AreKits (h : Heading) (lines : List Line) (rings : List Ring) (kits : Kits) : Type 0 where
  pub clients_many : length kits.clients.items ≡ length h.clients
  pub members_many : length kits.members.items ≡ h.members
  pub each_client : (k : ℕ) (kit : ClientKit) → k < length h.clients
      → IsClientKit h lines rings (suc k) (slice_index_or kits.clients.items k kit)
  pub each_member : (k : ℕ) (kit : MemberKit) → k < h.members
      → IsMemberKit h lines rings (suc k) (slice_index_or kits.members.items k kit)

-- ---- one at a time

-- The courier carries the passes of the sender with this number, by the plan that begins so.
pub record IsCourierOf (rings : List Ring) (sender first : ℕ) (courier : Carrying) : Type 0 where
  pub passes : List Sending
  pub its : AreSendersOf rings sender passes
  pub carries : courier ≡ begun passes first

-- of each inbox there are the passes of a sender at least
abbrev pub HaveSome : List Ring → List (List Sending) → Type 0
HaveSome rings sends = (left : ℕ) × HaveSenders rings (left + 1) sends

-- The courier carries the passes of the last sender, and those of the others are left.
abbrev pub GivesLast : List Ring → ℕ → List (List Sending) → Carrying → List (List Sending) → Type 0
GivesLast rings first sends courier after = (left : ℕ) → HaveSenders rings (left + 1) sends
    → HaveSenders rings left after × IsCourierOf rings left first courier

-- The passes of all clients and of the members up to this one are left, and the takers of these.
pub record HaveMembers (h : Heading) (rings : List Ring) (member : ℕ) (sends : List (List Sending)) (takes : List Taking) : Type 0 where
  pub many : length rings ≡ h.members
  pub senders : HaveSenders rings (length h.clients + member) sends
  pub takers : length takes ≡ member
  pub takes_each : (k : ℕ) (r : Ring) (t : Taking) → k < member
      → slice_index_or takes k t ≡ taker_of (slice_index_or rings k r).table (length h.clients + h.members)

-- The items are of the numbers from this one on.
abbrev pub EachFrom : {A : Type 0} → (ℕ → A → Type 0) → ℕ → List A → Type 0
EachFrom R from [] = Unit {0}
EachFrom R from (x ∷ xs) = R from x × EachFrom R (suc from) xs
