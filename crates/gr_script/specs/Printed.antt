-- What the lines of a script say, and its text.
use Rattle.std.specs.Prelude.{ℕ, ◌+◌, List, [], ◌∷◌, ◌++◌, map, Option, Some, None}
use Rattle.std.specs.Str.{IsUtf8}
use Rattle.gr_value.specs.KeyBytes.{IsKey}
use Rattle.gr_value.specs.declared.value.Field.{Field}
use Rattle.gr_value.specs.Values.{IsValue}
use Rattle.gr_value.specs.ValueText.{value_text}
use Rattle.gr_oql.specs.Grammar.{Spells}
use Rattle.gr_history.specs.declared.ask.Ask.{Ask}
use Rattle.gr_history.specs.declared.query_ask.QueryAsk.{QueryAsk}
use Rattle.gr_history.specs.declared.query_ask.QueryAsk.TheVariants as query
use Rattle.gr_script.specs.declared.forms.LineKind.{LineKind}
use Rattle.gr_script.specs.declared.forms.LineKind.TheVariants as kind
use Rattle.gr_script.specs.declared.items.Item.{Item}
use Rattle.gr_script.specs.declared.items.Item.TheVariants as item
use Rattle.gr_script.specs.declared.line.Act.{Act}
use Rattle.gr_script.specs.declared.line.Act.TheVariants.{Call, Query, Peek}
use Rattle.gr_script.specs.declared.line.Line.{Line}
use Rattle.gr_script.specs.declared.line.Line.TheVariants.{Step, Deliver, Report, Hear, Sweep, Join, Depart, Leave, Back}
use Rattle.gr_script.specs.declared.saying.Saying.{Saying}
use Rattle.gr_script.specs.declared.operation.Operation.TheVariants.{OfKey, OfValue, OfPair}
use Rattle.gr_script.specs.Forms.{word}
use Rattle.gr_script.specs.Operations.{Wording, WithKey, WithValue, WithPair, wording, operation_word}
use Rattle.gr_script.specs.Printing.{saying_text, text_of_sayings}
use Rattle.gr_script.specs.Rules.{Heading}
use Rattle.gr_script.specs.Suiting.{IsShort}

-- a line of this kind with its word in front
abbrev pub other_saying : LineKind → List Item → Saying
other_saying kind items = record { kind = kind; items = item.Word ∷ items }

-- a line of a client, with a key or the name of a query
abbrev pub step_saying : LineKind → ℕ → List ℕ → List Item → Saying
step_saying kind client key items = record { kind = kind; items = item.Client client ∷ item.Word ∷ item.Key key ∷ items }

-- a line on which a client leaves or comes back
abbrev pub moment_saying : LineKind → ℕ → ℕ → Saying
moment_saying kind client moment = record { kind = kind; items = item.Client client ∷ item.Word ∷ item.Number moment ∷ [] }

-- ---- the lines

abbrev pub wording_saying : ℕ → Wording → Saying
wording_saying client (WithKey operation key) = step_saying (kind.Call (OfKey operation)) client key []
wording_saying client (WithValue operation key value) =
    step_saying (kind.Call (OfValue operation)) client key (item.Value value ∷ [])
wording_saying client (WithPair operation key old new) =
    step_saying (kind.Call (OfPair operation)) client key (item.Value old ∷ item.Value new ∷ [])

abbrev pub ask_saying : ℕ → Ask → Saying
ask_saying client asked = wording_saying client (wording asked)

abbrev pub query_saying : ℕ → QueryAsk → Saying
query_saying client (query.Enrol name query) = step_saying kind.Open client name (item.Query query ∷ [])
query_saying client (query.Stop name) = step_saying kind.Stop client name []
query_saying client (query.Close name) = step_saying kind.Close client name []
query_saying client (query.Fetch name) = step_saying kind.Fetch client name []

abbrev pub act_saying : ℕ → Act → Saying
act_saying client (Call ask) = ask_saying client ask
act_saying client (Query ask) = query_saying client ask
act_saying client (Peek key) = step_saying kind.Peek client key []

abbrev pub saying_in : Line → Saying
saying_in (Step client seq act) = act_saying client act
saying_in (Deliver to client seq) = other_saying kind.Deliver (item.Member to ∷ item.Step client seq ∷ [])
saying_in (Report member) = other_saying kind.Report (item.Member member ∷ [])
saying_in (Hear by of number) = other_saying kind.Hear (item.Member by ∷ item.Member of ∷ item.Ordinal number ∷ [])
saying_in (Sweep member moment) = other_saying kind.Sweep (item.Member member ∷ item.Number moment ∷ [])
saying_in (Join member from) = other_saying kind.Join (item.Member member ∷ item.Member from ∷ [])
saying_in (Depart member) = other_saying kind.Depart (item.Member member ∷ [])
saying_in (Leave client moment) = moment_saying kind.Leave client moment
saying_in (Back client moment) = moment_saying kind.Back client moment

-- with the line feed that ends it
unfoldable pub line_text : Line → List ℕ
line_text line = saying_text (saying_in line) ++ 0x0A ∷ []

-- ---- what is asked, behind the client's number

abbrev pub wording_text : Wording → List ℕ
wording_text (WithKey operation key) = operation_word (OfKey operation) ++ 0x20 ∷ key
wording_text (WithValue operation key value) = operation_word (OfValue operation) ++ 0x20 ∷ (key ++ 0x20 ∷ value_text value)
wording_text (WithPair operation key old new) =
    operation_word (OfPair operation) ++ 0x20 ∷ (key ++ 0x20 ∷ (value_text old ++ 0x20 ∷ value_text new))

-- a value that may be named
abbrev pub named_text : Option (List Field) → List ℕ
named_text None = []
named_text (Some value) = 0x20 ∷ value_text value

abbrev pub ask_text : Ask → List ℕ
ask_text asked = wording_text (wording asked)

abbrev pub query_ask_text : QueryAsk → List ℕ
query_ask_text (query.Enrol name question) = word kind.Open ++ 0x20 ∷ (name ++ 0x20 ∷ question.text)
query_ask_text (query.Stop name) = word kind.Stop ++ 0x20 ∷ name
query_ask_text (query.Close name) = word kind.Close ++ 0x20 ∷ name
query_ask_text (query.Fetch name) = word kind.Fetch ++ 0x20 ∷ name

-- ---- the heading

-- the lines of the clients from this one on
abbrev pub client_sayings : ℕ → List ℕ → List Saying
client_sayings client [] = []
client_sayings client (member ∷ members) =
    other_saying kind.Client (item.Number client ∷ item.Word ∷ item.Member member ∷ []) ∷ client_sayings (client + 1) members

-- all seven lines, with the numbers that a script need not state
abbrev pub stated_sayings : Heading → List Saying
stated_sayings h =
    other_saying kind.Georep (item.Word ∷ [])
    ∷ other_saying kind.Region (item.Key h.region ∷ [])
    ∷ other_saying kind.Members (item.Number h.members ∷ item.Number h.founders ∷ [])
    ∷ other_saying kind.Shards (item.Number h.shards ∷ [])
    ∷ other_saying kind.Inbox (item.Number h.inbox ∷ [])
    ∷ other_saying kind.Trouble (item.Number h.trouble ∷ [])
    ∷ other_saying kind.Floor (item.Number h.floor ∷ [])
    ∷ []

abbrev pub heading_sayings : Heading → List Saying
heading_sayings h = stated_sayings h ++ client_sayings 1 h.clients

-- ---- the whole

abbrev pub sayings_in : Heading → List Line → List Saying
sayings_in h lines = heading_sayings h ++ map saying_in lines

abbrev pub script_text : Heading → List Line → List ℕ
script_text h lines = text_of_sayings (sayings_in h lines)

-- ---- what the numbers, keys, values and queries of a line keep

abbrev pub IsWordingKept : Wording → Type 0
IsWordingKept (WithKey operation key) = IsKey key
IsWordingKept (WithValue operation key value) = IsKey key × IsValue value
IsWordingKept (WithPair operation key old new) = IsKey key × IsValue old × IsValue new

abbrev pub IsAskKept : Ask → Type 0
IsAskKept asked = IsWordingKept (wording asked)

abbrev pub IsQueryKept : QueryAsk → Type 0
IsQueryKept (query.Enrol name query) = IsKey name × Spells query.text query × IsUtf8 query.text
IsQueryKept (query.Stop name) = IsKey name
IsQueryKept (query.Close name) = IsKey name
IsQueryKept (query.Fetch name) = IsKey name

abbrev pub IsActKept : Act → Type 0
IsActKept (Call ask) = IsAskKept ask
IsActKept (Query ask) = IsQueryKept ask
IsActKept (Peek key) = IsKey key

abbrev pub IsLineKept : Line → Type 0
IsLineKept (Step client seq act) = IsActKept act
IsLineKept (Deliver to client seq) = IsShort seq
IsLineKept (Hear by of number) = IsShort number
IsLineKept _ = Unit {0}
