-- What a query tells of changes, and what its events leave.
use Rattle.std.specs.Prelude.{ℕ, List, [], ◌∷◌, Bool, true, false, Option, Some, None, option_map, bytes_eq, if◌then◌else◌}
use Rattle.std.specs.List.{filter_map}
use Rattle.gr_value.specs.declared.value.Field.{Field}
use Rattle.gr_oql.specs.declared.event.BaseOp.{BaseOp}
use Rattle.gr_oql.specs.declared.event.BaseOp.TheVariants as base
use Rattle.gr_oql.specs.declared.event.Event.{Event}
use Rattle.gr_oql.specs.declared.event.QueryOp.{QueryOp}
use Rattle.gr_oql.specs.declared.event.QueryOp.TheVariants as op
use Rattle.gr_oql.specs.declared.event.Turned.{Turned}
use Rattle.gr_oql.specs.declared.truth.Truth.{Truth}
use Rattle.gr_oql.specs.declared.truth.Truth.TheVariants.{Holds, Fails, Undefined}
use Rattle.gr_oql.specs.Matching.{matches}
use Rattle.gr_oql.specs.Question.{Question}

abbrev pub is_holding : Truth → Bool
is_holding Holds = true
is_holding Fails = false
is_holding Undefined = false

-- an absent value matches nothing
abbrev pub is_match : Question → Option (List Field) → Bool
is_match question None = false
is_match question (Some fields) = is_holding (matches question fields)

-- by whether the old and the new value match
abbrev pub query_op : Bool → Bool → Option QueryOp
query_op false true = Some op.Create
query_op true true = Some op.Update
query_op true false = Some op.Destroy
query_op false false = None

abbrev pub classify : Question → Option (List Field) → Option (List Field) → Option QueryOp
classify question old new = query_op (is_match question old) (is_match question new)

-- What happened to the key: it isn't there any more, it is there without a value, or it has one and was there before
-- or wasn't.
abbrev pub base_op : Bool → Bool → Option (List Field) → BaseOp
base_op had false new = base.Destroy
base_op had true None = base.Invalidate
base_op true true (Some new) = base.Update
base_op false true (Some new) = base.Create

-- What a query is told of a turned key, if anything.
abbrev pub told : Question → Turned → Option Event
told question turned =
    option_map (λ told. record { op = told; base = base_op turned.had turned.has turned.new; key = turned.key; value = turned.new })
    (classify question turned.old turned.new)

-- what it is told of several, in order
abbrev pub told_all : Question → List Turned → List Event
told_all question all = filter_map (told question) all

-- what stands at each key
abbrev pub Present : Type 0
Present = List ℕ → Option (List Field)

abbrev pub where_matching : Question → Option (List Field) → Option (List Field)
where_matching question present = if is_match question present then present else None

-- of what stands, what matches
abbrev pub result_of : Question → Present → Present
result_of question present key = where_matching question (present key)

-- the value that an event leaves at its key
abbrev pub value_left : QueryOp → Option (List Field) → Option (List Field)
value_left op.Create value = value
value_left op.Update value = value
value_left op.Destroy value = None

abbrev pub with_event : Event → Present → Present
with_event event present key = if bytes_eq key event.key then value_left event.op event.value else present key

-- what stands once all events were followed, in order
abbrev pub played : Present → List Event → Present
played present [] = present
played present (event ∷ events) = played (with_event event present) events

-- the same of an event, where there is one
abbrev pub with_told : Option Event → Present → Present
with_told None present = present
with_told (Some event) present = with_event event present
