use denote.Param.{param}
use denote.Param.Send.{IsSync, sendable}
use denote.Param.SendFields.{declared_sync}
use denote.Ref.{NamedLft}
use denote.Struct.Tuple.{type_at}
use mir.Syntax.{named}
use Rattle.std.proofs.Crossing.{sync}
use Rattle.std.proofs.sync.atomic.AtomicBool.TheSendSync as sign
use Rattle.std.specs.contracts.alloc.Global as Heap
use Rattle.std.specs.contracts.sync.atomic.AtomicBool as AtomicBool
use Rattle.gr_value.proofs.list.ItemList.TheSendSync as list
use Rattle.gr_value.specs.contracts.list.ItemList as ItemList
use Rattle.gr_post.proofs.inbox.Inbox.TheSendSync as inbox
use Rattle.gr_post.specs.contracts.inbox.Inbox as Inbox
use Rattle.gr_member.proofs.Crossing.{member_sync}
use Rattle.gr_member.specs.contracts.member.Member as Member
use Rattle.gr_runner.proofs.Crossing.{borrowed_slice_sync, borrowed_sync, slot_send}
use Rattle.gr_runner.proofs.running.play.Lts as lts
use Rattle.gr_runner.proofs.running.play.Goals as goal

pub for_each_mut-requires-send-T : goal.for_each_mut-requires-send-T
for_each_mut-requires-send-T g c κs within = search (sendable, slot_send) depth 20

inboxes_sync : IsSync (ItemList.the_row Inbox.the_row)
inboxes_sync = search (sendable, list.the_sync, inbox.the_sync) depth 20

pub for_each_mut-requires-sync-F : goal.for_each_mut-requires-sync-F
for_each_mut-requires-sync-F g c κs within =
    let handle : IsSync (param 0 g.row.R) = search (sendable, c.type_bounds.sync-R) in
    let told : IsSync (param 1 g.row.G) = search (sendable, c.type_bounds.sync-G) in
    let a : NamedLft = record { mir = named 6; lft = κs.1.1.1.1.1.1.0 } in
    let b : NamedLft = record { mir = named 7; lft = κs.1.1.1.1.1.1.1.0 } in
    let d : NamedLft = record { mir = named 8; lft = κs.1.1.1.1.1.1.1.1.0 } in
    let e : NamedLft = record { mir = named 9; lft = κs.1.1.1.1.1.1.1.1.1.0 } in
    let f : NamedLft = record { mir = named 10; lft = κs.1.1.1.1.1.1.1.1.1.1.0 } in
    let h : NamedLft = record { mir = named 11; lft = κs.1.1.1.1.1.1.1.1.1.1.1.0 } in
    let name = lts.name-20 g.row.R g.row.G g.R.laws g.G.laws g.R.Threads-dict g.R.Wait-dict g.G.Gate-dict in
    let captured = lts.of-2 g.row.R g.row.G g.R.laws g.G.laws g.R.Threads-dict g.R.Wait-dict g.G.Gate-dict in
    record {
      shared = (declared_sync (type_at name (captured a b d e f h)) (
        borrowed_sync a (param 0 g.row.R) tt handle,
        (
          borrowed_sync b Heap.the_row tt sync,
          (
            borrowed_slice_sync d Member.the_row tt member_sync,
            (
              borrowed_sync e (ItemList.the_row Inbox.the_row) tt inboxes_sync,
              (borrowed_sync f (param 1 g.row.G) tt told, (borrowed_slice_sync h AtomicBool.the_row tt sign.the_sync, tt)),
            ),
          ),
        ),
      )).shared;
    }
