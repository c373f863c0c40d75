use denote.Param.{param}
use denote.Param.Send.{IsSend, IsSync, sendable}
use denote.Param.SendFields.{as_row_send, declared_send, declared_sync}
use denote.Ref.{NamedLft}
use denote.Struct.Tuple.{type_at}
use mir.Syntax.{named}
use Rattle.std.proofs.Crossing.{Vec-send, sync}
use Rattle.std.specs.contracts.alloc.Global as Heap
use Rattle.gr_member.proofs.Crossing.{member_sync, pass_send}
use Rattle.gr_member.specs.contracts.member.Member as Member
use Rattle.gr_thread_tests.proofs.Crossing.{captured_sync}
use Rattle.gr_thread_tests.proofs.member.steps.Told.TheSendSync as told
use Rattle.gr_thread_tests.specs.contracts.member.crowd.Slot as Slot
use Rattle.gr_thread_tests.proofs.member.crowd.work_all.Lts as lts
use Rattle.gr_thread_tests.proofs.member.crowd.work_all.Goals as goal

both : {A B : Type 0} → A → B → A × B
both a b = (a, b)

slot_send : IsSend Slot.the_row
slot_send =
    declared_send Slot.the_type (search (both, sendable, as_row_send, Vec-send, pass_send, told.the_field_send) depth 20)

pub for_each_mut-requires-send-T : goal.for_each_mut-requires-send-T
for_each_mut-requires-send-T g c κs within = search (sendable, slot_send) depth 20

pub for_each_mut-requires-sync-F : goal.for_each_mut-requires-sync-F
for_each_mut-requires-sync-F g c κs within =
    let handle : IsSync (param 0 g.row.R) = search (sendable, c.type_bounds.sync-R) in
    let a : NamedLft = record { mir = named 6; lft = κs.1.1.1.1.1.1.0 } in
    let b : NamedLft = record { mir = named 7; lft = κs.1.1.1.1.1.1.1.0 } in
    let d : NamedLft = record { mir = named 8; lft = κs.1.1.1.1.1.1.1.1.0 } in
    let name = lts.name-6 g.row.R g.R.laws g.R.Threads-dict g.R.Wait-dict in
    let captured = lts.of-0 g.row.R g.R.laws g.R.Threads-dict g.R.Wait-dict a b d in
    record {
      shared = (declared_sync (type_at name captured) (
        captured_sync a (param 0 g.row.R) tt handle,
        (captured_sync b Heap.the_row tt sync, (captured_sync d Member.the_row tt member_sync, tt)),
      )).shared;
    }
