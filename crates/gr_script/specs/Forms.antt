-- The forms of lines, as data: the word of each, its fields, and where it may stand.
use Rattle.std.specs.Prelude.{ℕ, List, [], ◌∷◌, ◌++◌, ◌==◌, map, Bool, true, false, Option, codes, bytes_eq, min}
use Rattle.std.specs.List.{find}
use Rattle.gr_script.specs.declared.forms.LineKind.{LineKind}
use Rattle.gr_script.specs.declared.forms.LineKind.TheVariants.{Georep, Region, Members, Shards, Inbox, Trouble, Floor, Client, Call, Peek}
use Rattle.gr_script.specs.declared.forms.LineKind.TheVariants.{Open, Stop, Close, Fetch, Deliver, Report}
use Rattle.gr_script.specs.declared.forms.LineKind.TheVariants.{Hear, Sweep, Join, Depart, Leave, Back}
use Rattle.gr_script.specs.declared.forms.FieldKind.{FieldKind}
use Rattle.gr_script.specs.declared.forms.FieldKind.TheVariants as field
use Rattle.gr_script.specs.declared.operation.Operation.TheVariants.{OfKey, OfValue, OfPair}
use Rattle.gr_script.specs.Operations.{operation_word, operations}
use Rattle.gr_script.specs.Limits.{most_members, most_shards, most_inbox, most_trouble, most_clients, most_moment}
use Rattle.gr_stamp.specs.declared.stamp.TheConstants.{LIMIT}

abbrev pub word : LineKind → List ℕ
word Georep = codes "georep"
word Region = codes "region"
word Members = codes "members"
word Shards = codes "shards"
word Inbox = codes "inbox"
word Trouble = codes "trouble"
word Floor = codes "floor"
word Client = codes "client"
word (Call operation) = operation_word operation
word Peek = codes "peek"
word Open = codes "open"
word Stop = codes "stop"
word Close = codes "close"
word Fetch = codes "fetch"
word Deliver = codes "deliver"
word Report = codes "report"
word Hear = codes "hear"
word Sweep = codes "sweep"
word Join = codes "join"
word Depart = codes "depart"
word Leave = codes "leave"
word Back = codes "back"

-- the fields of the line
abbrev pub fields : LineKind → List FieldKind
fields Georep = field.Word ∷ field.Version ∷ []
fields Region = field.Word ∷ field.Region ∷ []
fields Members = field.Word ∷ (field.Number 1 most_members) ∷ (field.Number 1 most_members) ∷ []
fields Shards = field.Word ∷ (field.Number 1 most_shards) ∷ []
fields Inbox = field.Word ∷ (field.Number 1 most_inbox) ∷ []
fields Trouble = field.Word ∷ (field.Number 0 most_trouble) ∷ []
fields Floor = field.Word ∷ (field.Number 0 LIMIT) ∷ []
fields Client = field.Word ∷ (field.Number 1 most_clients) ∷ field.At ∷ field.Member ∷ []
fields (Call (OfKey operation)) = field.Client ∷ field.Word ∷ field.Key ∷ []
fields (Call (OfValue operation)) = field.Client ∷ field.Word ∷ field.Key ∷ field.Value ∷ []
fields (Call (OfPair operation)) = field.Client ∷ field.Word ∷ field.Key ∷ field.Value ∷ field.Value ∷ []
fields Peek = field.Client ∷ field.Word ∷ field.Key ∷ []
fields Open = field.Client ∷ field.Word ∷ field.Key ∷ field.Query ∷ []
fields Stop = field.Client ∷ field.Word ∷ field.Key ∷ []
fields Close = field.Client ∷ field.Word ∷ field.Key ∷ []
fields Fetch = field.Client ∷ field.Word ∷ field.Key ∷ []
fields Deliver = field.Word ∷ field.Member ∷ field.Step ∷ []
fields Report = field.Word ∷ field.Member ∷ []
fields Hear = field.Word ∷ field.Member ∷ field.Member ∷ field.Ordinal ∷ []
fields Sweep = field.Word ∷ field.Member ∷ (field.Number 0 most_moment) ∷ []
fields Join = field.Word ∷ field.Member ∷ field.Member ∷ []
fields Depart = field.Word ∷ field.Member ∷ []
fields Leave = field.Client ∷ field.Word ∷ (field.Number 0 most_moment) ∷ []
fields Back = field.Client ∷ field.Word ∷ (field.Number 0 most_moment) ∷ []

-- which of the kinds it is, counted from 0; all calls are of one
abbrev pub place : LineKind → ℕ
place Georep = 0
place Region = 1
place Members = 2
place Shards = 3
place Inbox = 4
place Trouble = 5
place Floor = 6
place Client = 7
place (Call operation) = 8
place Peek = 9
place Open = 10
place Stop = 11
place Close = 12
place Fetch = 13
place Deliver = 14
place Report = 15
place Hear = 16
place Sweep = 17
place Join = 18
place Depart = 19
place Leave = 20
place Back = 21

-- A line of a greater rank stands behind one of a lesser.
abbrev pub rank : LineKind → ℕ
rank kind = min (place kind) 8

-- the lines that begin with a client's number and are no calls
abbrev pub more_kinds : List LineKind
more_kinds = Peek ∷ Open ∷ Stop ∷ Close ∷ Fetch ∷ Leave ∷ Back ∷ []

-- the lines that begin with a client's number
abbrev pub client_kinds : List LineKind
client_kinds = map Call operations ++ more_kinds

abbrev pub other_kinds : List LineKind
other_kinds =
    Georep ∷ Region ∷ Members ∷ Shards ∷ Inbox ∷ Trouble ∷ Floor
    ∷ Client ∷ Deliver ∷ Report ∷ Hear ∷ Sweep ∷ Join ∷ Depart ∷ []

-- the first of these kinds whose word this is
abbrev pub kind_of : List LineKind → List ℕ → Option LineKind
kind_of kinds text = find (λ kind. bytes_eq text (word kind)) kinds

-- Some lines are steps of a client.
abbrev pub is_step : LineKind → Bool
is_step (Call operation) = true
is_step Peek = true
is_step Open = true
is_step Stop = true
is_step Close = true
is_step Fetch = true
is_step _ = false

-- Steps begin with a client's number, and lines on which it leaves or comes back.
abbrev pub is_clients : LineKind → Bool
is_clients Leave = true
is_clients Back = true
is_clients kind = is_step kind

-- whether lines are of the same kind
abbrev pub is_kind : LineKind → LineKind → Bool
is_kind kind other = place kind == place other
