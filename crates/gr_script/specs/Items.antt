-- What the fields of a line say, or why the line is refused at one of them.
use Rattle.std.specs.Prelude.{ℕ, List, [], ◌∷◌, Bool, false, ◌||◌, nat_lt, not, bytes_eq, Option, Some, None, Result, Ok, Err}
use Rattle.std.specs.Option.{ok_or, option_map_or}
use Rattle.std.specs.Str.{is_utf8}
use Rattle.gr_value.specs.declared.fault.KeyFault.{KeyFault}
use Rattle.gr_value.specs.declared.fault.ValueFault.{ValueFault}
use Rattle.gr_value.specs.declared.value.Field.{Field}
use Rattle.gr_value.specs.KeyBytes.{key_fault}
use Rattle.gr_value.specs.ValueReading.{read_value}
use Rattle.gr_oql.specs.declared.fault.OqlFault.{OqlFault}
use Rattle.gr_oql.specs.Question.{Question}
use Rattle.gr_oql.specs.Questions.{question_of}
use Rattle.gr_script.specs.declared.forms.FieldKind.{FieldKind}
use Rattle.gr_script.specs.declared.forms.FieldKind.TheVariants as field
use Rattle.gr_script.specs.declared.items.Item.{Item}
use Rattle.gr_script.specs.declared.items.Item.TheVariants.{Word, Number, Member, Client, Ordinal, Step, Key, Value, Query}
use Rattle.gr_script.specs.declared.items.Setting.{Setting}
use Rattle.gr_script.specs.declared.reason.Reason.{Reason}
use Rattle.gr_script.specs.declared.reason.Reason.TheVariants as reason
use Rattle.gr_script.specs.Fields.{piece, left}
use Rattle.gr_script.specs.Limits.{most_clients}
use Rattle.gr_script.specs.Halts.{key_reason, value_reason, query_reason, ◌>>=◌, unless}
use Rattle.gr_script.specs.Numerals.{number_of}
use Rattle.gr_script.specs.Rules.{is_region}
use Rattle.gr_script.specs.Texts.{cut}

-- ---- numbers

abbrev pub number_at : List ℕ → Result ℕ Reason
number_at text = ok_or (number_of text) reason.Number

-- a number from the one to the other
abbrev pub within : ℕ → ℕ → ℕ → Result ℕ Reason
within least most number = unless (nat_lt number least || nat_lt most number) reason.Range number

abbrev pub number_in : ℕ → ℕ → List ℕ → Result ℕ Reason
number_in least most text = number_at text >>= within least most

-- a client's number, where the client is stated
abbrev pub stated_client : Setting → ℕ → Result ℕ Reason
stated_client setting number = do
  client ← within 1 most_clients number
  unless (nat_lt setting.clients client) reason.Client client

-- the texts in front of the first dot and behind it, as numbers
abbrev pub dotted_numbers : Option (List ℕ × List ℕ) → Result (ℕ × ℕ) Reason
dotted_numbers None = Err reason.Number
dotted_numbers (Some parts) = do
  client ← number_at parts.0
  step ← number_at parts.1
  Ok (client, step)

-- ---- keys, values and queries

abbrev pub key_from : List ℕ → Option KeyFault → Result (List ℕ) Reason
key_from text None = Ok text
key_from text (Some fault) = Err (key_reason fault)

abbrev pub key_at : List ℕ → Result (List ℕ) Reason
key_at text = key_from text (key_fault text)

abbrev pub value_from : Result (List Field) ValueFault → Result (List Field) Reason
value_from (Ok value) = Ok value
value_from (Err fault) = Err (value_reason fault)

abbrev pub value_at : List ℕ → Result (List Field) Reason
value_at text = value_from (read_value text)

abbrev pub query_from : Result Question OqlFault → Result Question Reason
query_from (Ok query) = Ok query
query_from (Err fault) = Err (query_reason fault)

-- whether this is the region's name
abbrev pub is_own : Setting → List ℕ → Bool
is_own setting region = option_map_or (λ own. bytes_eq region own) setting.region false

abbrev pub text_at : List ℕ → Result (List ℕ) Reason
text_at text = unless (not (is_utf8 text)) reason.Utf8 text

abbrev pub own_query : Setting → Question → Result Question Reason
own_query setting query = unless (not (is_own setting query.asked.region)) reason.Region query

abbrev pub query_at : Setting → List ℕ → Result Question Reason
query_at setting text = do
  text ← text_at text
  query ← query_from (question_of text)
  own_query setting query

-- ---- items

abbrev pub region_at : List ℕ → Result (List ℕ) Reason
region_at text = unless (not (is_region text)) reason.Name text

-- what a field says that is a number, and else a field that is one word only
abbrev pub number_item : Setting → FieldKind → List ℕ → Result Item Reason
number_item setting (field.Number least most) text = number_in least most text >>= λ number. Ok (Number number)
number_item setting field.Member text = number_in 1 setting.members text >>= λ member. Ok (Member member)
number_item setting field.Client text = number_at text >>= stated_client setting >>= λ client. Ok (Client client)
number_item setting field.Ordinal text = number_at text >>= λ number. Ok (Ordinal number)
number_item setting field.Step text = do
  numbers ← dotted_numbers (cut 0x2E text)
  client ← stated_client setting numbers.0
  Ok (Step client numbers.1)
number_item setting _ text = Ok Word

-- what a field of this kind says
abbrev pub item_at : Setting → FieldKind → List ℕ → Result Item Reason
item_at setting field.Region text = region_at text >>= λ region. Ok (Key region)
item_at setting field.Key text = key_at text >>= λ key. Ok (Key key)
item_at setting field.Value text = value_at text >>= λ value. Ok (Value value)
item_at setting field.Query text = query_at setting text >>= λ query. Ok (Query query)
item_at setting kind text = number_item setting kind text

-- what the fields say, from the left
abbrev pub items_at : Setting → List FieldKind → List ℕ → Result (List Item) Reason
items_at setting [] text = Ok []
items_at setting (kind ∷ kinds) text = do
  item ← item_at setting kind (piece kind text)
  items ← items_at setting kinds (left kind text)
  Ok (item ∷ items)
