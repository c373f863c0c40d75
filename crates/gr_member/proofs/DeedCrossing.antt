-- A deed, and so an entry of a history, may cross threads: what is shared of it is read at once by all that hold it.
use denote.Hole.{as_row}
use denote.Param.Send.{IsSend, IsSync, sendable, view_send}
use denote.Param.SendFields.{as_row_send, as_row_sync, declared_send, variants_send, variants_sync}
use Rattle.gr_value.proofs.key.Key.TheSendSync as key
use Rattle.gr_value.proofs.list.ItemList.TheSendSync as list
use Rattle.gr_value.proofs.shared.Shared.TheSendSync as shared
use Rattle.gr_value.proofs.value.Value.TheSendSync as value
use Rattle.gr_value.specs.contracts.key.Key as Key
use Rattle.gr_value.specs.contracts.shared.Shared as Shared
use Rattle.gr_oql.specs.contracts.query.Query as Query
use Rattle.gr_stamp.proofs.change.Change.TheSendSync as change
use Rattle.gr_stamp.specs.contracts.change.Change as Change
use Rattle.gr_vector.proofs.report.Report.TheSendSync as report
use Rattle.gr_history.proofs.ask.Ask.TheSendSync as ask
use Rattle.gr_history.proofs.cause.Cause.TheSendSync as cause
use Rattle.gr_history.proofs.image.Image.TheSendSync as image
use Rattle.gr_history.proofs.image.What.TheSendSync as what
use Rattle.gr_history.proofs.query_reply.QueryReply.TheSendSync as query_reply
use Rattle.gr_history.proofs.reply.Reply.TheSendSync as reply
use Rattle.gr_history.proofs.verdict.Verdict.TheSendSync as verdict
use Rattle.gr_history.specs.contracts.deed.Deed as Deed
use Rattle.gr_history.specs.contracts.entry.Entry as Entry
use Rattle.gr_history.specs.contracts.entry.Entry.TheInside as EntryInside
use Rattle.gr_history.specs.contracts.entry.Kept as Kept
use Rattle.gr_history.specs.contracts.query_ask.QueryAsk as QueryAsk
use Rattle.gr_member.proofs.QueryCrossing.{query_send, query_sync}

-- for the fields of a struct, one after the other
pub both : {A B : Type 0} → A → B → A × B
both a b = (a, b)

name_send : IsSend (as_row Key.the_field)
name_send = as_row_send Key.the_field key.the_send

name_sync : IsSync (as_row Key.the_field)
name_sync = as_row_sync Key.the_field key.the_sync

pub query_ask_send : IsSend QueryAsk.the_row
query_ask_send =
    variants_send QueryAsk.enum
    ((name_send, (as_row_send Query.the_field query_send, tt)), ((name_send, tt), ((name_send, tt), ((name_send, tt), tt))))

query_ask_sync : IsSync QueryAsk.the_row
query_ask_sync =
    variants_sync QueryAsk.enum
    ((name_sync, (as_row_sync Query.the_field query_sync, tt)), ((name_sync, tt), ((name_sync, tt), ((name_sync, tt), tt))))

-- ---- a deed

change_send : IsSend (Shared.the_row Change.the_row)
change_send = shared.the_send Change.the_row change.the_send change.the_sync

change_sync : IsSync (Shared.the_row Change.the_row)
change_sync = shared.the_sync Change.the_row change.the_send change.the_sync

deed_send : IsSend Deed.the_row
deed_send =
    variants_send Deed.enum
    (search (
      both,
      sendable,
      as_row_send,
      query_ask_send,
      ask.the_field_send,
      reply.the_field_send,
      query_reply.the_field_send,
      change_send,
      verdict.the_field_send,
      image.the_field_send,
      what.the_field_send,
      report.the_field_send,
      key.the_send,
      list.the_send,
    ) depth 20)

deed_sync : IsSync Deed.the_row
deed_sync =
    variants_sync Deed.enum
    (search (
      both,
      sendable,
      as_row_sync,
      query_ask_sync,
      ask.the_field_sync,
      reply.the_field_sync,
      query_reply.the_field_sync,
      change_sync,
      verdict.the_field_sync,
      image.the_field_sync,
      what.the_field_sync,
      report.the_field_sync,
      key.the_sync,
      list.the_sync,
    ) depth 20)

-- ---- an entry

whole_send : IsSend (Shared.the_row Deed.the_row)
whole_send = shared.the_send Deed.the_row deed_send deed_sync

kept_send : IsSend Kept.the_row
kept_send =
    variants_send Kept.enum
    (search (both, sendable, as_row_send, change_send, whole_send, cause.the_field_send, verdict.the_field_send, key.the_send, value.the_send) depth 20)

entry_inside_send : IsSend EntryInside.the_row
entry_inside_send = declared_send EntryInside.the_type (search (both, sendable, kept_send) depth 20)

pub entry_send : IsSend Entry.the_row
entry_send = search (view_send, entry_inside_send)
