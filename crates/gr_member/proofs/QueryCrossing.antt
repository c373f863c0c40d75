-- A query may cross threads. A condition holds conditions, so it is shown layer by layer.
use denote.RattleType.{RattleType}
use denote.Struct.Field.{Field, row_field}
use denote.Hole.{as_row}
use denote.Hole.FixSend.{Sends, Syncs, fix_send, fix_sync}
use denote.Param.Send.{IsSend, IsSync, sendable, view_send, view_sync}
use denote.Param.SendFields.{as_row_send, as_row_sync, declared_send, declared_sync, variants_send, variants_sync}
use Rattle.std.proofs.Crossing.{Vec-send, Vec-sync, Box-send, Box-sync, Arc-send, Arc-sync}
use Rattle.std.specs.contracts.alloc.Global as Heap
use Rattle.std.specs.contracts.boxed.Box as Box
use Rattle.std.specs.contracts.impls.GlobalAllocator.TheImpl.{ghosts}
use Rattle.std.specs.contracts.option.Option as Option
use Rattle.std.specs.contracts.sync.Arc as Arc
use Rattle.std.specs.contracts.vec.Vec as Vec
use Rattle.gr_value.proofs.key.Key.TheSendSync as key
use Rattle.gr_value.proofs.list.ItemList.TheSendSync as list
use Rattle.gr_value.proofs.text.Text.TheSendSync as text
use Rattle.gr_value.specs.contracts.key.Key as Key
use Rattle.gr_value.specs.contracts.text.Text as Text
use Rattle.gr_oql.proofs.condition.Test.TheSendSync as test
use Rattle.gr_oql.proofs.must.Must.TheSendSync as must
use Rattle.gr_oql.specs.contracts.clauses.Clauses as Clauses
use Rattle.gr_oql.specs.contracts.condition.Condition as Condition
use Rattle.gr_oql.specs.contracts.condition.Condition.TheKnot.{ring, hole-Condition, type-Condition, layer-Condition}
use Rattle.gr_oql.specs.contracts.condition.Test as Test
use Rattle.gr_oql.specs.contracts.query.Parts as Parts
use Rattle.gr_oql.specs.contracts.query.Query as Query
use Rattle.gr_oql.specs.contracts.query.Query.TheInside as Inside
use Rattle.gr_oql.specs.declared.condition.Condition.TheBlock.{the_members, member-Condition}

-- ---- what a condition holds of another one: it in a list, or in a box
abbrev list_of : RattleType → Field
list_of h = row_field (Vec.the_row h Heap.the_row ghosts)

abbrev box_of : RattleType → Field
box_of h = row_field (Box.the_row h Heap.the_row ghosts)

list_send : (h : RattleType) → IsSend h → IsSend (as_row (list_of h))
list_send h s = as_row_send (list_of h) (Vec-send h s)

list_sync : (h : RattleType) → IsSync h → IsSync (as_row (list_of h))
list_sync h s = as_row_sync (list_of h) (Vec-sync h s)

test_send : IsSend (as_row Test.the_field)
test_send = as_row_send Test.the_field test.the_field_send

test_sync : IsSync (as_row Test.the_field)
test_sync = as_row_sync Test.the_field test.the_field_sync

-- ---- one layer, where what it holds may cross
layer_send : (h : RattleType) → IsSend h → IsSend (layer-Condition h h h)
layer_send h s =
    variants_send (type-Condition h h h) (
      (list_send h s, tt),
      (
        (list_send h s, tt),
        ((as_row_send (box_of h) (Box-send h s), tt), ((as_row_send (row_field (as_row Test.the_field)) test_send, tt), tt)),
      ),
    )

layer_sync : (h : RattleType) → IsSync h → IsSync (layer-Condition h h h)
layer_sync h s =
    variants_sync (type-Condition h h h) (
      (list_sync h s, tt),
      (
        (list_sync h s, tt),
        ((as_row_sync (box_of h) (Box-sync h s), tt), ((as_row_sync (row_field (as_row Test.the_field)) test_sync, tt), tt)),
      ),
    )

sends : (i : the_members) → Sends ring i
sends member-Condition = record {
  send = λ h all.
      let layer = layer_send (h member-Condition) (all member-Condition) in
      record { owned = layer.owned; leaving = layer.leaving };
}

syncs : (i : the_members) → Syncs ring i
syncs member-Condition = record {
  sync = λ h all. record { shared = (layer_sync (h member-Condition) (all member-Condition)).shared };
}

-- ---- all layers
hole_send : IsSend hole-Condition
hole_send = record { owned = (fix_send ring sends member-Condition).owned; leaving = λ k d w. tt }

hole_sync : IsSync hole-Condition
hole_sync = record { shared = (fix_sync ring syncs member-Condition).shared }

condition_send : IsSend Condition.the_row
condition_send =
    variants_send Condition.enum (
      (list_send hole-Condition hole_send, tt),
      (
        (list_send hole-Condition hole_send, tt),
        ((as_row_send (Box.the_field hole-Condition Heap.the_row ghosts) (Box-send hole-Condition hole_send), tt), ((test_send, tt), tt)),
      ),
    )

condition_sync : IsSync Condition.the_row
condition_sync =
    variants_sync Condition.enum (
      (list_sync hole-Condition hole_sync, tt),
      (
        (list_sync hole-Condition hole_sync, tt),
        ((as_row_sync (Box.the_field hole-Condition Heap.the_row ghosts) (Box-sync hole-Condition hole_sync), tt), ((test_sync, tt), tt)),
      ),
    )

-- ---- what stands around a condition
alias_send : IsSend (Option.the_field Text.the_row).row
alias_send = search (sendable, text.the_send) depth 20

alias_sync : IsSync (Option.the_field Text.the_row).row
alias_sync = search (sendable, text.the_sync) depth 20

maybe_send : IsSend (Option.the_field Condition.the_row).row
maybe_send = search (sendable, condition_send) depth 20

maybe_sync : IsSync (Option.the_field Condition.the_row).row
maybe_sync = search (sendable, condition_sync) depth 20

clauses_send : IsSend Clauses.the_row
clauses_send =
    declared_send Clauses.the_type (
      as_row_send Key.the_field key.the_send,
      (as_row_send (Option.the_field Text.the_row) alias_send, (as_row_send (Option.the_field Condition.the_row) maybe_send, tt)),
    )

clauses_sync : IsSync Clauses.the_row
clauses_sync =
    declared_sync Clauses.the_type (
      as_row_sync Key.the_field key.the_sync,
      (as_row_sync (Option.the_field Text.the_row) alias_sync, (as_row_sync (Option.the_field Condition.the_row) maybe_sync, tt)),
    )

parts_send : IsSend Parts.the_row
parts_send = declared_send Parts.the_type (
  as_row_send Text.the_field text.the_send,
  (clauses_send, (search (sendable, as_row_send, list.the_send, must.the_field_send, must.the_send) depth 20, tt)),
)

parts_sync : IsSync Parts.the_row
parts_sync = declared_sync Parts.the_type (
  as_row_sync Text.the_field text.the_sync,
  (clauses_sync, (search (sendable, as_row_sync, list.the_sync, must.the_field_sync, must.the_sync) depth 20, tt)),
)

inside_send : IsSend Inside.the_row
inside_send =
    declared_send Inside.the_type
    (as_row_send (Arc.the_field Parts.the_row Heap.the_row ghosts) (Arc-send Parts.the_row parts_send parts_sync), tt)

inside_sync : IsSync Inside.the_row
inside_sync =
    declared_sync Inside.the_type
    (as_row_sync (Arc.the_field Parts.the_row Heap.the_row ghosts) (Arc-sync Parts.the_row parts_send parts_sync), tt)

pub query_send : IsSend Query.the_row
query_send = search (view_send, inside_send)

pub query_sync : IsSync Query.the_row
query_sync = search (view_sync, inside_sync)
