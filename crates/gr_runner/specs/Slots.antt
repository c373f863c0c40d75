-- Threads before and after they run.
use Rattle.std.specs.Prelude.{◌≡◌, ℕ, suc, ◌<◌, List, [], length, slice_index_or, Option, Some, None}
use Rattle.gr_post.specs.Passes.{Ring}
use Rattle.gr_member.specs.Passes.{House, StaysAll}
use Rattle.gr_member.specs.Seats.{Place}
use Rattle.gr_session.specs.declared.client.Client.{Client}
use Rattle.gr_session.specs.Clients.{IsAttended}
use Rattle.gr_session.specs.Sessions.{HasServed, IsSessionAt}
use Rattle.gr_session.specs.Waiting.{HasMadeNothing}
use Rattle.gr_host.specs.declared.host.Host.{Host}
use Rattle.gr_host.specs.Hosts.{HasBegun, IsHostAt, IsHosted}
use Rattle.gr_host.specs.Houses.{StayAt}
use Rattle.gr_runner.specs.declared.gathering.Left.{Left}
use Rattle.gr_runner.specs.declared.gathering.News.{News}
use Rattle.gr_runner.specs.declared.gathering.News.TheVariants as news
use Rattle.gr_runner.specs.declared.slots.Slot.{Slot}
use Rattle.gr_runner.specs.declared.slots.Worker.{Worker}
use Rattle.gr_runner.specs.declared.slots.Worker.TheVariants as worker

-- ---- before

-- The client is at the member of this place, and did nothing yet.
pub record IsClientAt (houses : List House) (rings : List Ring) (home : ℕ) (client : Client) : Type 0 where
  pub there : home < length houses
  pub at : (h : House) → IsSessionAt (slice_index_or houses home h) rings client.session
  pub served : HasServed client.session []
  pub fresh : HasMadeNothing client.session.pass

-- It is the thread of the member of this place, and did nothing yet.
pub record IsThreadAt (houses : List House) (rings : List Ring) (home : ℕ) (host : Host) : Type 0 where
  pub there : home < length houses
  pub its : host.plan.member ≡ suc home
  pub at : IsHostAt houses rings host
  pub begun : HasBegun host

abbrev pub IsWorkerAt : List House → List Ring → ℕ → Option Worker → Type 0
IsWorkerAt houses rings home (Some (worker.Client client)) = IsClientAt houses rings home client
IsWorkerAt houses rings home (Some (worker.Member host)) = IsThreadAt houses rings home host
IsWorkerAt houses rings home None = ⊥

abbrev pub IsSlotAt : List House → List Ring → Slot → Type 0
IsSlotAt houses rings slot = IsWorkerAt houses rings slot.home slot.worker

-- ---- after

abbrev pub ClientTells : Client → List Place → Option News → Type 0
ClientTells client pass None = Unit {0}
ClientTells client pass (Some (news.Client told sends)) = IsAttended client.session client.waits pass told sends
ClientTells client pass (Some (news.Member take sends)) = ⊥

abbrev pub MemberTells : Host → List Place → List (List Place) → Option News → Type 0
MemberTells host pass visits None = Unit {0}
MemberTells host pass visits (Some (news.Client told sends)) = ⊥
MemberTells host pass visits (Some (news.Member take sends)) = IsHosted host pass visits take sends

-- The client's thread left its pass, which forgot nothing, and its news where it was refused no memory.
pub record LeavesOfClient (home : ℕ) (client : Client) (left : Left) : Type 0 where
  pub there : left.home ≡ home
  pub stays : StaysAll client.session.pass left.pass
  pub none : left.visits.items ≡ []
  pub tells : ClientTells client left.pass left.news

-- The member's thread left its passes, which forgot nothing, and its news where it was refused no memory.
pub record LeavesOfMember (home : ℕ) (host : Host) (left : Left) : Type 0 where
  pub there : left.home ≡ home
  pub stays : StaysAll host.pass left.pass
  pub visits : StayAt host.visits.items left.visits.items
  pub tells : MemberTells host left.pass left.visits.items left.news

abbrev pub LeavesOf : ℕ → Option Worker → Option Left → Type 0
LeavesOf home (Some (worker.Client client)) (Some left) = LeavesOfClient home client left
LeavesOf home (Some (worker.Member host)) (Some left) = LeavesOfMember home host left
LeavesOf home _ _ = ⊥

-- The thread of the slot ran.
abbrev pub HasRun : Slot → Slot → Type 0
HasRun old new = LeavesOf old.home old.worker new.left
