-- A slot may go to another thread, with its worker and with what that leaves.
use denote.Builtin as builtin
use denote.Hole.{as_row}
use denote.RattleType.{RattleType}
use denote.Ref.{NamedLft}
use denote.Struct.Field.{row_field, shr_ref_field, shr_slice_field}
use denote.Param.Send.{IsSend, IsSync, sendable, shr_slice_sync, shr_sync}
use denote.Param.SendFields.{as_row_send, as_row_sync, declared_send, variants_send}
use Rattle.std.proofs.Crossing.{Vec-send}
use Rattle.gr_value.proofs.key.Key.TheSendSync as key
use Rattle.gr_value.proofs.list.ItemList.TheSendSync as list
use Rattle.gr_history.proofs.ask.Ask.TheSendSync as ask
use Rattle.gr_history.proofs.record.Answer.TheSendSync as answer
use Rattle.gr_script.specs.contracts.line.Act as Act
use Rattle.gr_script.specs.contracts.line.Step as Step
use Rattle.gr_post.proofs.courier.Courier.TheSendSync as courier
use Rattle.gr_post.proofs.passes.TakePass.TheSendSync as taking
use Rattle.gr_member.proofs.plan.Plan.TheSendSync as plan
use Rattle.gr_member.proofs.Crossing.{pass_send}
use Rattle.gr_member.proofs.DeedCrossing.{both, query_ask_send}
use Rattle.gr_session.specs.contracts.client.Client as Client
use Rattle.gr_session.specs.contracts.session.Session as Session
use Rattle.gr_host.proofs.duties.Duty.TheSendSync as duty
use Rattle.gr_host.proofs.ends.Ends.TheSendSync as ends
use Rattle.gr_host.specs.contracts.host.Host as Host
use Rattle.gr_runner.proofs.gathering.News.TheSendSync as news
use Rattle.gr_runner.specs.contracts.gathering.Left as Left
use Rattle.gr_runner.specs.contracts.slots.Slot as Slot
use Rattle.gr_runner.specs.contracts.slots.Worker as Worker

-- ---- a client's thread
act_send : IsSend Act.the_row
act_send = variants_send Act.enum (search (both, sendable, as_row_send, ask.the_field_send, query_ask_send, key.the_send) depth 20)

step_send : IsSend Step.the_row
step_send = declared_send Step.the_type (search (both, sendable, as_row_send, act_send) depth 20)

session_send : IsSend Session.the_row
session_send =
    declared_send Session.the_type
    (search (
      both,
      sendable,
      as_row_send,
      plan.the_field_send,
      list.the_send,
      step_send,
      answer.the_send,
      pass_send,
      courier.the_send,
    ) depth 30)

client_send : IsSend Client.the_row
client_send = declared_send Client.the_type (search (both, sendable, as_row_send, session_send) depth 20)

-- ---- a member's thread
host_send : IsSend Host.the_row
host_send =
    declared_send Host.the_type
    (search (
      both,
      sendable,
      as_row_send,
      Vec-send,
      plan.the_field_send,
      list.the_send,
      duty.the_send,
      pass_send,
      taking.the_send,
      courier.the_send,
      ends.the_send,
    ) depth 30)

-- ---- a slot
worker_send : IsSend Worker.the_row
worker_send = variants_send Worker.enum (search (both, sendable, client_send, host_send) depth 20)

left_send : IsSend Left.the_row
left_send = declared_send Left.the_type (search (both, sendable, as_row_send, Vec-send, pass_send, news.the_send) depth 20)

pub slot_send : IsSend Slot.the_row
slot_send = declared_send Slot.the_type (search (both, sendable, as_row_send, worker_send, left_send) depth 20)

-- ---- what a closure borrowed may be shared, where it itself may
pub borrowed_sync : (a : NamedLft) (R : RattleType) (one : builtin.One R.mir) → IsSync R
    → IsSync (as_row (row_field (shr_ref_field a R one).row))
borrowed_sync a R one s = as_row_sync (row_field (shr_ref_field a R one).row) (shr_sync a.mir a.lft R s)

pub borrowed_slice_sync : (a : NamedLft) (R : RattleType) (one : builtin.One R.mir) → IsSync R
    → IsSync (as_row (row_field (shr_slice_field a R one).row))
borrowed_slice_sync a R one s = as_row_sync (row_field (shr_slice_field a R one).row) (shr_slice_sync a.mir a.lft R s)
