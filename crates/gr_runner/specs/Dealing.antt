-- How passes are dealt: at each member one is kept, and the others go to threads.
use Rattle.std.specs.Prelude.{◌≡◌, ◌≢◌, ℕ, suc, ◌+◌, ◌-◌, ◌≤◌, ◌<◌, ◌==◌, Bool, true, false, List, [], ◌∷◌, ◌++◌, Option, Some}
use Rattle.std.specs.Prelude.{None, length, flat_map, reverse}
use Rattle.std.specs.Prelude.{count_by, nat_le, slice_get, take, slice_index_or, vec_capacity, if◌then◌else◌}
use Rattle.std.specs.Global.{Vec}
use Rattle.std.specs.List.{AllByRecursion}
use Rattle.std.specs.Option.{option_to_list}
use Rattle.gr_turn.specs.Views.{times}
use Rattle.gr_law.specs.Grids.{Among}
use Rattle.gr_script.specs.Rules.{Heading}
use Rattle.gr_member.specs.Fresh.{IsFresh}
use Rattle.gr_member.specs.Passes.{House}
use Rattle.gr_member.specs.Seats.{Place}
use Rattle.gr_session.specs.Sessions.{HasServed}
use Rattle.gr_session.specs.Waiting.{HasMadeNothing}
use Rattle.gr_session.specs.declared.client.Client.{Client}
use Rattle.gr_host.specs.declared.host.Host.{Host}
use Rattle.gr_host.specs.Houses.{ArePassesOf}
use Rattle.gr_runner.specs.declared.dealing.Dealt.{Dealt}
use Rattle.gr_runner.specs.declared.rooms.Rooms.{Rooms}
use Rattle.gr_runner.specs.declared.slots.ClientKit.{ClientKit}
use Rattle.gr_runner.specs.declared.slots.MemberKit.{MemberKit}
use Rattle.gr_runner.specs.declared.slots.Slot.{Slot}
use Rattle.gr_runner.specs.declared.slots.Worker.{Worker}
use Rattle.gr_runner.specs.declared.slots.Worker.TheVariants as worker
use Rattle.gr_runner.specs.Gathering.{seats_at}
use Rattle.gr_runner.specs.Makings.{passes_at}

-- ---- room

-- nothing is in it
abbrev pub HasNone : {E : Type 0} → Vec E → Type 0
HasNone room = room.items ≡ []

-- Nothing is in it, and it has room for so many.
pub record IsRoom {E : Type 0} (count : ℕ) (room : Vec E) : Type 0 where
  pub none : HasNone room
  pub held : count ≤ vec_capacity room

-- So many lists with nothing in them, each with room for so many.
pub record AreRooms (lists members : ℕ) (rooms : List (Vec (List Place))) : Type 0 where
  pub many : length rooms ≡ lists
  pub each : AllByRecursion (IsRoom members) rooms

-- Nothing is in any of the lists.
pub record HaveNone (rooms : Rooms) : Type 0 where
  pub visits : AllByRecursion HasNone rooms.visits.items
  pub slots : HasNone rooms.slots
  pub desks : HasNone rooms.desks
  pub lefts : HasNone rooms.lefts

-- There is room for a pass at each member, for each member; for all threads, for a pass that is kept at each member, and for what
-- all threads leave.
pub record AreRoomsOf (h : Heading) (rooms : Rooms) : Type 0 where
  pub visits : AreRooms h.members h.members rooms.visits.items
  pub slots : IsRoom (h.members + length h.clients) rooms.slots
  pub desks : IsRoom h.members rooms.desks
  pub lefts : IsRoom (h.members + length h.clients) rooms.lefts

-- ---- one pass, or one at each member

-- A pass was taken at the member of this place, and the others' are as they were.
pub record IsTaken (at : ℕ) (old : List (List (List Place))) (pass : List Place) (new : List (List (List Place))) : Type 0 where
  pub many : length new ≡ length old
  pub here : (x : List (List Place)) → slice_index_or old at x ≡ slice_index_or new at x ++ pass ∷ []
  pub others : (k : ℕ) (x : List (List Place)) → k ≢ at → slice_index_or new k x ≡ slice_index_or old k x

-- At each member there is a pass.
abbrev pub HaveOne : List (List (List Place)) → Type 0
HaveOne passes = (k : ℕ) (x : List (List Place)) → k < length passes → 1 ≤ length (slice_index_or passes k x)

-- At each member a pass was taken.
pub record AreTaken (old : List (List (List Place))) (taken : List (List Place)) (new : List (List (List Place))) : Type 0 where
  pub many : length new ≡ length old
  pub count : length taken ≡ length old
  pub each : (k : ℕ) (x : List (List Place)) (p : List Place) → k < length old
      → slice_index_or old k x ≡ slice_index_or new k x ++ slice_index_or taken k p ∷ []

-- At each member a pass was taken for one that joins, and none for another.
pub record AreVisited (joins : Bool) (old : List (List (List Place))) (visits : List (List Place)) (new : List (List (List Place)))
    : Type 0 where
  pub many : length new ≡ length old
  pub all : joins ≡ true → length visits ≡ length old
  pub none : joins ≡ false → visits ≡ []
  pub each : (k : ℕ) (x : List (List Place)) → k < length old
      → slice_index_or old k x ≡ slice_index_or new k x ++ option_to_list (slice_get visits k)

-- ---- a thread's passes

-- the passes of a worker at the member of this place, where its own member has the place home
abbrev pub worker_at : ℕ → ℕ → Option Worker → List (List Place)
worker_at member home (Some (worker.Client client)) = if home == member then client.session.pass ∷ [] else []
worker_at member home (Some (worker.Member host)) =
    option_to_list (slice_get host.visits.items member) ++ (if home == member then host.pass ∷ [] else [])
worker_at member home None = []

-- the passes of a thread at the member of this place
abbrev pub dealt_at : ℕ → Slot → List (List Place)
dealt_at member slot = worker_at member slot.home slot.worker

-- At each member the passes of these threads were taken.
pub record AreDealtTo (old : List (List (List Place))) (slots : List Slot) (new : List (List (List Place))) : Type 0 where
  pub many : length new ≡ length old
  pub each : (k : ℕ) (x : List (List Place)) → k < length old
      → slice_index_or old k x ≡ slice_index_or new k x ++ reverse (flat_map (dealt_at k) slots)

-- how many passes a member's thread takes at the member of this place
abbrev pub needed_at : ℕ → ℕ → Bool → ℕ
needed_at member home joins = (if joins then 1 else 0) + (if home == member then 1 else 0)

-- There are as many, and they were taken.
abbrev pub HaveEnough : ℕ → Bool → List (List (List Place)) → Type 0
HaveEnough home joins passes =
    (k : ℕ) (x : List (List Place)) → k < length passes → needed_at k home joins ≤ length (slice_index_or passes k x)

-- as many fewer are there
abbrev pub HaveFewer : ℕ → Bool → List (List (List Place)) → List (List (List Place)) → Type 0
HaveFewer home joins old new = (k : ℕ) (x : List (List Place)) → k < length old
    → length (slice_index_or old k x) ≡ length (slice_index_or new k x) + needed_at k home joins

-- The thread is that of the member of this place, with what the kit has, and with a pass at each of so many members where it joins.
pub record IsMemberSlot (members home : ℕ) (joins : Bool) (kit : MemberKit) (slot : Slot) : Type 0 where
  pub host : Host
  pub worker_is : slot.worker ≡ Some (worker.Member host)
  pub home_is : slot.home ≡ home
  pub nothing_left : slot.left ≡ None
  pub plan_is : host.plan ≡ kit.plan
  pub duties_are : host.duties ≡ kit.duties
  pub take_is : host.take ≡ kit.take
  pub courier_is : host.courier ≡ kit.courier
  pub ends_are : host.ends ≡ kit.ends
  pub visits_all : joins ≡ true → length host.visits.items ≡ members
  pub visits_none : joins ≡ false → host.visits.items ≡ []

-- The thread is that of the client, with what the kit has, and did no step.
pub record IsClientSlot (kit : ClientKit) (slot : Slot) : Type 0 where
  pub client : Client
  pub worker_is : slot.worker ≡ Some (worker.Client client)
  pub home_is : slot.home ≡ kit.plan.member - 1
  pub nothing_left : slot.left ≡ None
  pub waits_same : client.waits ≡ kit.waits
  pub served : kit.courier.posted ≡ [] → HasMadeNothing client.session.pass → HasServed client.session []
  pub session_is : client.session ≡ record {
    client = kit.client;
    plan = kit.plan;
    steps = kit.steps;
    answers = [];
    pass = client.session.pass;
    courier = kit.courier;
  }

-- ---- all threads

-- At each member there are as many passes as were planned.
pub record AreCounted (h : Heading) (passes : List (List (List Place))) : Type 0 where
  pub many : length passes ≡ h.members
  pub each : (m : ℕ) (x : List (List Place)) → m < h.members → length (slice_index_or passes m x) ≡ passes_at h (suc m)

-- how many passes are wanted at the member of the place m, where the threads of so many members have theirs: one by each client there,
-- one by its own thread if it is still to come, and one by each of the others to come that joins
abbrev pub to_come : Heading → ℕ → ℕ → ℕ
to_come h members m = count_by (λ at. at == suc m) h.clients + (1 - (members - m)) + (h.members - h.founders - (members - h.founders))

-- As many are there.
pub record AreToCome (h : Heading) (members : ℕ) (passes : List (List (List Place))) : Type 0 where
  pub many : length passes ≡ h.members
  pub each : (m : ℕ) (x : List (List Place)) → m < h.members → length (slice_index_or passes m x) ≡ to_come h members m

-- At each member there are as many as clients that are still to come, where so many have theirs.
pub record AreForClients (h : Heading) (clients : ℕ) (passes : List (List (List Place))) : Type 0 where
  pub many : length passes ≡ h.members
  pub each : (m : ℕ) (x : List (List Place)) → m < h.members
      → length (slice_index_or passes m x) + count_by (λ at. at == suc m) (take clients h.clients) ≡ count_by (λ at. at == suc m) h.clients

-- The threads are those of these kits, of which each is a member's, in order.
pub record AreMemberSlots (h : Heading) (kits : List MemberKit) (slots : List Slot) : Type 0 where
  pub many : length slots ≡ length kits
  pub each : (k : ℕ) (kit : MemberKit) (slot : Slot) → k < length kits
      → IsMemberSlot h.members k (nat_le h.founders k) (slice_index_or kits k kit) (slice_index_or slots k slot)

-- The threads are those of these kits, of which each is a client's.
pub record AreClientSlots (kits : List ClientKit) (slots : List Slot) : Type 0 where
  pub many : length slots ≡ length kits
  pub each : (k : ℕ) (kit : ClientKit) (slot : Slot) → k < length kits
      → IsClientSlot (slice_index_or kits k kit) (slice_index_or slots k slot)

-- The kits are of all clients, each at its member.
pub record AreAtHome (h : Heading) (kits : List ClientKit) : Type 0 where
  pub many : length kits ≡ length h.clients
  pub each : (k d : ℕ) (kit : ClientKit) → k < length kits → (slice_index_or kits k kit).plan.member ≡ slice_index_or h.clients k d

-- The threads of these kits stand behind the others, each with a pass of its member.
pub record AddsClients (old : List (List (List Place))) (kits : List ClientKit) (front slots : List Slot) (new : List (List (List Place)))
    : Type 0 where
  pub added : List Slot
  pub behind : slots ≡ front ++ added
  pub are : AreClientSlots kits added
  pub dealt : AreDealtTo old added new

-- All passes were dealt: at each member one is kept, and the threads of its kits, the members' first, have the others. The passes are
-- in the order in which they were dealt, the last first.
pub record IsDealt (h : Heading) (passes : List (List (List Place))) (clients : List ClientKit) (members : List MemberKit) (dealt : Dealt)
    : Type 0 where
  pub desks : length dealt.desks.items ≡ h.members
  pub of_members : List Slot
  pub of_clients : List Slot
  pub slots : dealt.slots.items ≡ of_members ++ of_clients
  pub members_are : AreMemberSlots h members of_members
  pub clients_are : AreClientSlots clients of_clients
  pub all : (m : ℕ) (x : List (List Place)) (p : List Place) → m < h.members
      → slice_index_or passes m x ≡ reverse (slice_index_or dealt.desks.items m p ∷ flat_map (dealt_at m) dealt.slots.items)
  pub room : IsRoom (h.members + length h.clients) dealt.lefts

-- ---- what the passes are

-- The pass is one of this member, with one of so many numbers, and was not used.
abbrev pub IsNew : House → ℕ → List Place → Type 0
IsNew house passes p = (number : ℕ) × IsFresh house passes number p

-- the passes of the member of this place: the one that is kept at it, and those of threads
abbrev pub passes_of : ℕ → List Place → Dealt → List (List Place)
passes_of m desk dealt = desk ∷ flat_map (dealt_at m) dealt.slots.items

-- The member's thread has a new pass of its own member, and each of its visits is a new pass of the member of that place.
pub record HostHasNew (h : Heading) (houses : List House) (home : ℕ) (host : Host) : Type 0 where
  pub own : (house : House) → home < h.members → IsNew (slice_index_or houses home house) (passes_at h (suc home)) host.pass
  pub visits : (m : ℕ) (house : House) (p : List Place) → m < h.members → m < length host.visits.items
      → IsNew (slice_index_or houses m house) (passes_at h (suc m)) (slice_index_or host.visits.items m p)

abbrev pub WorkerHasNew : Heading → List House → ℕ → Option Worker → Type 0
WorkerHasNew h houses home (Some (worker.Client client)) = (house : House) → home < h.members
    → IsNew (slice_index_or houses home house) (passes_at h (suc home)) client.session.pass
WorkerHasNew h houses home (Some (worker.Member host)) = HostHasNew h houses home host
WorkerHasNew h houses home None = Unit {0}

-- The passes of the thread are new.
abbrev pub HasNewPasses : Heading → List House → Slot → Type 0
HasNewPasses h houses slot = WorkerHasNew h houses slot.home slot.worker

-- At each member, which has so many passes in all, those that were dealt are new; and of each number there is one, at each shard.
pub record AreDealt (h : Heading) (houses : List House) (dealt : Dealt) : Type 0 where
  pub desks : ArePassesOf houses dealt.desks.items
  pub threads : AllByRecursion (HasNewPasses h houses) dealt.slots.items
  pub new : (m : ℕ) (house : House) (d : List Place) → m < h.members
      → AllByRecursion (IsNew (slice_index_or houses m house) (passes_at h (suc m)))
      (passes_of m (slice_index_or dealt.desks.items m d) dealt)
  pub numbers : (m n shard : ℕ) (d : List Place) → m < h.members → n < passes_at h (suc m) → shard < h.shards
      → (s : Place) × Among s (seats_at shard (passes_of m (slice_index_or dealt.desks.items m d) dealt)) × (0 < times n s.view.parts)
