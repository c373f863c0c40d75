-- Which items suit the fields of a line.
use Rattle.std.specs.Prelude.{ℕ, ◌≤◌, ◌<◌, ◌^◌, List, [], ◌∷◌, IsTrue, ⊤}
use Rattle.std.specs.Str.{is_utf8}
use Rattle.gr_value.specs.KeyBytes.{IsKey}
use Rattle.gr_value.specs.Values.{IsValue}
use Rattle.gr_oql.specs.Grammar.{Spells}
use Rattle.gr_oql.specs.Question.{Question}
use Rattle.gr_script.specs.declared.forms.FieldKind.{FieldKind}
use Rattle.gr_script.specs.declared.forms.FieldKind.TheVariants as field
use Rattle.gr_script.specs.declared.items.Item.{Item}
use Rattle.gr_script.specs.declared.items.Item.TheVariants.{Word, Number, Member, Client, Ordinal, Step, Key, Value, Query}
use Rattle.gr_script.specs.declared.items.Setting.{Setting}
use Rattle.gr_script.specs.Items.{is_own}
use Rattle.gr_script.specs.Rules.{is_region, IsWithin}
use Rattle.gr_script.specs.Rests.{IsRest}
use Rattle.gr_script.specs.Limits.{most_clients}

-- A number has at most 20 digits.
abbrev pub IsShort : ℕ → Type 0
IsShort number = number < 10 ^ 20

-- a client that is stated
abbrev pub IsClient : Setting → ℕ → Type 0
IsClient setting client = IsWithin 1 most_clients client × (client ≤ setting.clients)

pub record IsOwnQuery (setting : Setting) (query : Question) : Type 0 where
  pub spelled : Spells query.text query
  pub readable : IsTrue (is_utf8 query.text)
  pub own : IsTrue (is_own setting query.asked.region)
  pub rest : IsRest query.text

-- what may stand in a field of this kind
abbrev pub Suits : Setting → FieldKind → Item → Type 0
Suits setting field.Word Word = ⊤
Suits setting field.At Word = ⊤
Suits setting field.Version Word = ⊤
Suits setting field.Region (Key region) = IsTrue (is_region region)
Suits setting (field.Number least most) (Number number) = IsWithin least most number × IsShort number
Suits setting field.Member (Member member) = IsWithin 1 setting.members member × IsShort member
Suits setting field.Client (Client client) = IsClient setting client
Suits setting field.Ordinal (Ordinal number) = IsShort number
Suits setting field.Step (Step client seq) = IsClient setting client × IsShort seq
Suits setting field.Key (Key key) = IsKey key
Suits setting field.Value (Value value) = IsValue value
Suits setting field.Query (Query query) = IsOwnQuery setting query
Suits setting _ _ = ⊥

abbrev pub AllSuit : Setting → List FieldKind → List Item → Type 0
AllSuit setting [] [] = ⊤
AllSuit setting (field ∷ fields) (item ∷ items) = Suits setting field item × AllSuit setting fields items
AllSuit setting _ _ = ⊥

-- A query's text is the rest of its line.
abbrev pub IsRestItem : Item → Type 0
IsRestItem (Query query) = IsRest query.text
IsRestItem _ = Unit {0}

abbrev pub AreRests : List Item → Type 0
AreRests [] = Unit {0}
AreRests (item ∷ items) = IsRestItem item × AreRests items
