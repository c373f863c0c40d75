-- How a line is spelled that says something: its fields by their items, with single spaces between them.
use Rattle.std.specs.Prelude.{ℕ, List, [], ◌∷◌, ◌++◌, codes, map}
use Rattle.std.specs.Fmt.{decimal}
use Rattle.std.specs.List.{join_by}
use Rattle.gr_value.specs.ValueText.{value_text}
use Rattle.gr_script.specs.declared.forms.FieldKind.{FieldKind}
use Rattle.gr_script.specs.declared.forms.FieldKind.TheVariants as field
use Rattle.gr_script.specs.declared.forms.LineKind.{LineKind}
use Rattle.gr_script.specs.declared.items.Item.{Item}
use Rattle.gr_script.specs.declared.items.Item.TheVariants.{Word, Number, Member, Client, Ordinal, Step, Key, Value, Query}
use Rattle.gr_script.specs.declared.saying.Saying.{Saying}
use Rattle.gr_script.specs.Forms.{word, fields}
use Rattle.gr_script.specs.Texts.{text_of}

abbrev pub item_text : Item → List ℕ
item_text Word = []
item_text (Number number) = decimal number
item_text (Member member) = decimal member
item_text (Client client) = decimal client
item_text (Ordinal number) = decimal number
item_text (Step client seq) = decimal client ++ 0x2E ∷ decimal seq
item_text (Key key) = key
item_text (Value value) = value_text value
item_text (Query query) = query.text

-- what stands in a field of a line of this kind
abbrev pub field_text : LineKind → FieldKind → Item → List ℕ
field_text kind field.Word item = word kind
field_text kind field.At item = codes "at"
field_text kind field.Version item = codes "1"
field_text kind _ item = item_text item

abbrev pub field_texts : LineKind → List FieldKind → List Item → List (List ℕ)
field_texts kind [] items = []
field_texts kind (field ∷ fields) [] = []
field_texts kind (field ∷ fields) (item ∷ items) = field_text kind field item ∷ field_texts kind fields items

abbrev pub spaced : List (List ℕ) → List ℕ
spaced texts = join_by (λ text. text) (codes " ") texts

abbrev pub saying_text : Saying → List ℕ
saying_text saying = spaced (field_texts saying.kind (fields saying.kind) saying.items)

-- a line for each
abbrev pub text_of_sayings : List Saying → List ℕ
text_of_sayings sayings = text_of (map saying_text sayings)
