-- A shard may go to another thread, with its history and its queries.
use denote.Param.Send.{IsSend, sendable, view_send}
use denote.Param.SendFields.{as_row_send, declared_send}
use Rattle.std.proofs.Crossing.{Vec-send}
use Rattle.gr_value.proofs.key.Key.TheSendSync as key
use Rattle.gr_vector.proofs.vector.Vector.TheSendSync as vector
use Rattle.gr_history.proofs.identity.Identity.TheSendSync as identity
use Rattle.gr_history.specs.contracts.history.History as History
use Rattle.gr_history.specs.contracts.history.History.TheInside as HistoryInside
use Rattle.gr_cq.proofs.waiting.Waiting.TheSendSync as waiting
use Rattle.gr_cq.specs.contracts.open.Open as Open
use Rattle.gr_cq.specs.contracts.registry.Registry as Registry
use Rattle.gr_cq.specs.contracts.registry.Registry.TheInside as RegistryInside
use Rattle.gr_slots.proofs.slots.Slots.TheSendSync as slots
use Rattle.gr_stable.proofs.heard.Heard.TheSendSync as heard
use Rattle.gr_shard.specs.contracts.shard.Shard as Shard
use Rattle.gr_shard.specs.contracts.shard.Shard.TheInside as ShardInside
use Rattle.gr_member.proofs.DeedCrossing.{both, entry_send}
use Rattle.gr_member.proofs.QueryCrossing.{query_send}

history_inside_send : IsSend HistoryInside.the_row
history_inside_send = declared_send HistoryInside.the_type (search (both, sendable, as_row_send, Vec-send, entry_send) depth 20)

history_send : IsSend History.the_row
history_send = search (view_send, history_inside_send)

open_send : IsSend Open.the_row
open_send = declared_send Open.the_type (search (both, sendable, as_row_send, key.the_send, query_send, waiting.the_send) depth 20)

registry_inside_send : IsSend RegistryInside.the_row
registry_inside_send = declared_send RegistryInside.the_type (search (both, sendable, as_row_send, Vec-send, open_send) depth 20)

registry_send : IsSend Registry.the_row
registry_send = search (view_send, registry_inside_send)

shard_inside_send : IsSend ShardInside.the_row
shard_inside_send =
    declared_send ShardInside.the_type
    (search (
      both,
      sendable,
      as_row_send,
      identity.the_field_send,
      slots.the_send,
      vector.the_send,
      heard.the_send,
      registry_send,
      history_send,
    ) depth 30)

pub shard_send : IsSend Shard.the_row
shard_send = search (view_send, shard_inside_send)
