-- A member may be shared by threads, and a pass may go to another one.
use denote.Param.Send.{IsSend, IsSync, sendable, view_send, view_sync}
use denote.Param.SendFields.{as_row_send, as_row_sync, declared_send, declared_sync}
use Rattle.std.proofs.Crossing.{Box-send, Vec-send, Vec-sync}
use Rattle.gr_turn.proofs.lock.Seat.TheSendSync as seat
use Rattle.gr_turn.proofs.lock.TurnLock.TheSendSync as lock
use Rattle.gr_peek.proofs.published.Published.TheSendSync as published
use Rattle.gr_peek.proofs.told.Told.TheSendSync as told
use Rattle.gr_member.proofs.plan.Plan.TheSendSync as plan
use Rattle.gr_member.proofs.watch.Watch.TheSendSync as watch
use Rattle.gr_member.specs.contracts.lock.ShardLock as ShardLock
use Rattle.gr_member.specs.contracts.member.Member as Member
use Rattle.gr_member.specs.contracts.member.Member.TheInside as MemberInside
use Rattle.gr_member.specs.contracts.pass.Pass as Pass
use Rattle.gr_member.specs.contracts.pass.Pass.TheInside as PassInside
use Rattle.gr_member.specs.contracts.pass.ShardPass as ShardPass
use Rattle.gr_member.specs.contracts.pass.ShardPass.TheInside as ShardPassInside
use Rattle.gr_member.specs.contracts.replica.Replica as Replica
use Rattle.gr_member.specs.contracts.replica.Replica.TheInside as ReplicaInside
use Rattle.gr_member.proofs.DeedCrossing.{both}
use Rattle.gr_member.proofs.ShardCrossing.{shard_send}

replica_inside_send : IsSend ReplicaInside.the_row
replica_inside_send =
    declared_send ReplicaInside.the_type (search (both, sendable, as_row_send, Box-send, shard_send, published.the_send) depth 20)

replica_send : IsSend Replica.the_row
replica_send = search (view_send, replica_inside_send)

shard_pass_inside_send : IsSend ShardPassInside.the_row
shard_pass_inside_send =
    declared_send ShardPassInside.the_type (search (both, sendable, as_row_send, seat.the_send, replica_send, watch.the_send) depth 20)

shard_pass_send : IsSend ShardPass.the_row
shard_pass_send = search (view_send, shard_pass_inside_send)

pass_inside_send : IsSend PassInside.the_row
pass_inside_send = declared_send PassInside.the_type (search (both, sendable, as_row_send, Vec-send, shard_pass_send) depth 20)

pub pass_send : IsSend Pass.the_row
pass_send = search (view_send, pass_inside_send)

lock_sync : IsSync ShardLock.the_row
lock_sync = declared_sync ShardLock.the_type (search (both, sendable, as_row_sync, lock.the_sync, replica_send, told.the_sync) depth 20)

member_inside_sync : IsSync MemberInside.the_row
member_inside_sync =
    declared_sync MemberInside.the_type (search (both, sendable, as_row_sync, Vec-sync, lock_sync, plan.the_field_sync) depth 20)

pub member_sync : IsSync Member.the_row
member_sync = search (view_sync, member_inside_sync)
