-- What the fields of a line that was read hold.
use Rattle.std.proofs.Common.{◌≡◌, ℕ, ◌≤◌, List, [], ◌∷◌, true, ltb, not, Ok, sym, ap, ◌∙◌, subst}
use Rattle.std.proofs.lemmas.Bool.{ltb-false, not-false}
use Rattle.gr_value.specs.declared.value.Field.{Field}
use Rattle.gr_oql.specs.Question.{Question}
use Rattle.gr_script.specs.declared.forms.FieldKind.{FieldKind}
use Rattle.gr_script.specs.declared.forms.FieldKind.TheVariants as field
use Rattle.gr_script.specs.declared.items.Item.{Item}
use Rattle.gr_script.specs.declared.items.Item.TheVariants as item
use Rattle.gr_script.specs.declared.items.Setting.{Setting}
use Rattle.gr_script.specs.declared.reason.Reason.TheVariants as reason
use Rattle.gr_script.specs.Fields.{piece, left}
use Rattle.gr_script.specs.Items.{within, number_at, number_in, stated_client, dotted_numbers, is_own, text_at, query_from}
use Rattle.gr_oql.specs.Questions.{question_of}
use Rattle.gr_script.specs.Items.{own_query, query_at, region_at, key_at, value_at, item_at, items_at}
use Rattle.gr_script.specs.Rules.{is_region, IsWithin}
use Rattle.gr_script.specs.Texts.{cut}
use Rattle.gr_script.proofs.Passes.{done_is, bind_ok, unless_ok, within_ok}
use Rattle.gr_script.specs.Limits.{most_clients}

-- a number from the one to the other, and one of a client that is stated
abbrev pub Within : ℕ → ℕ → Type 0
Within least most = (number : ℕ) × IsWithin least most number

abbrev pub IsClient : Setting → ℕ → Type 0
IsClient setting client = IsWithin 1 most_clients client × (client ≤ setting.clients)

-- what a field of this kind holds
abbrev pub Content : Setting → FieldKind → Type 0
Content setting field.Word = Unit {0}
Content setting field.At = Unit {0}
Content setting field.Version = Unit {0}
Content setting field.Region = (region : List ℕ) × (is_region region ≡ true)
Content setting (field.Number least most) = Within least most
Content setting field.Member = Within 1 setting.members
Content setting field.Client = (client : ℕ) × IsClient setting client
Content setting field.Ordinal = ℕ
Content setting field.Step = (numbers : ℕ × ℕ) × IsClient setting numbers.0
Content setting field.Key = List ℕ
Content setting field.Value = List Field
Content setting field.Query = (query : Question) × (is_own setting query.asked.region ≡ true)

abbrev pub item_of : (setting : Setting) (kind : FieldKind) → Content setting kind → Item
item_of setting field.Word c = item.Word
item_of setting field.At c = item.Word
item_of setting field.Version c = item.Word
item_of setting field.Region c = item.Key c.0
item_of setting (field.Number least most) c = item.Number c.0
item_of setting field.Member c = item.Member c.0
item_of setting field.Client c = item.Client c.0
item_of setting field.Ordinal c = item.Ordinal c
item_of setting field.Step c = item.Step c.0.0 c.0.1
item_of setting field.Key c = item.Key c
item_of setting field.Value c = item.Value c
item_of setting field.Query c = item.Query c.0

abbrev pub Contents : Setting → List FieldKind → Type 0
Contents setting [] = Unit {0}
Contents setting (kind ∷ kinds) = Content setting kind × Contents setting kinds

abbrev pub items_of : (setting : Setting) (kinds : List FieldKind) → Contents setting kinds → List Item
items_of setting [] c = []
items_of setting (kind ∷ kinds) c = item_of setting kind c.0 ∷ items_of setting kinds c.1

-- ---- one field

abbrev Held : Setting → FieldKind → Item → Type 0
Held setting kind read = (c : Content setting kind) × (item_of setting kind c ≡ read)

number_held : (least most : ℕ) (text : List ℕ) (number : ℕ) → number_in least most text ≡ Ok number → IsWithin least most number
number_held least most text number e =
    let b = bind_ok (number_at text) (within least most) number e in
    let w = within_ok least most b.0 number b.2 in
    subst (IsWithin least most) w.0 w.1

client_held : (setting : Setting) (number client : ℕ) → stated_client setting number ≡ Ok client → IsClient setting client
client_held setting number client e =
    let b = bind_ok (within 1 most_clients number) _ client e in
    let w = within_ok 1 most_clients number b.0 b.1 in
    let u = unless_ok (ltb setting.clients b.0) reason.Client b.0 client b.2 in
    subst (IsClient setting) u.1 (subst (IsWithin 1 most_clients) w.0 w.1, ltb-false setting.clients b.0 u.0)

query_held : (setting : Setting) (text : List ℕ) (query : Question) → query_at setting text ≡ Ok query
    → is_own setting query.asked.region ≡ true
query_held setting text query e =
    let b = bind_ok (text_at text) _ query e in
    let q = bind_ok (query_from (question_of b.0)) (own_query setting) query b.2 in
    let u = unless_ok (not (is_own setting q.0.asked.region)) reason.Region q.0 query q.2 in
    ap (λ (a : Question). is_own setting a.asked.region) (sym u.1) ∙ not-false _ u.0

item_held : (setting : Setting) (kind : FieldKind) (text : List ℕ) (read : Item) → item_at setting kind text ≡ Ok read
    → Held setting kind read
item_held setting field.Word text read e = (tt, done_is _ read e)
item_held setting field.At text read e = (tt, done_is _ read e)
item_held setting field.Version text read e = (tt, done_is _ read e)
item_held setting field.Region text read e =
    let b = bind_ok (region_at text) _ read e in
    let u = unless_ok (not (is_region text)) reason.Name text b.0 b.1 in
    ((b.0, ap is_region (sym u.1) ∙ not-false _ u.0), done_is _ read b.2)
item_held setting (field.Number least most) text read e =
    let b = bind_ok (number_in least most text) _ read e in
    ((b.0, number_held least most text b.0 b.1), done_is _ read b.2)
item_held setting field.Member text read e =
    let b = bind_ok (number_in 1 setting.members text) _ read e in
    ((b.0, number_held 1 setting.members text b.0 b.1), done_is _ read b.2)
item_held setting field.Client text read e =
    let b = bind_ok _ _ read e in
    let n = bind_ok (number_at text) (stated_client setting) b.0 b.1 in
    ((b.0, client_held setting n.0 b.0 n.2), done_is _ read b.2)
item_held setting field.Ordinal text read e =
    let b = bind_ok (number_at text) _ read e in
    (b.0, done_is _ read b.2)
item_held setting field.Step text read e =
    let b = bind_ok (dotted_numbers (cut 0x2E text)) _ read e in
    let n = bind_ok (stated_client setting b.0.0) _ read b.2 in
    (((n.0, b.0.1), client_held setting b.0.0 n.0 n.1), done_is _ read n.2)
item_held setting field.Key text read e =
    let b = bind_ok (key_at text) _ read e in
    (b.0, done_is _ read b.2)
item_held setting field.Value text read e =
    let b = bind_ok (value_at text) _ read e in
    (b.0, done_is _ read b.2)
item_held setting field.Query text read e =
    let b = bind_ok (query_at setting text) _ read e in
    ((b.0, query_held setting text b.0 b.1), done_is _ read b.2)

-- ---- all fields

pub items_held : (setting : Setting) (kinds : List FieldKind) (text : List ℕ) (read : List Item) → items_at setting kinds text ≡ Ok read
    → (c : Contents setting kinds) × (items_of setting kinds c ≡ read)
items_held setting [] text read e = (tt, done_is [] read e)
items_held setting (kind ∷ kinds) text read e =
    let b = bind_ok (item_at setting kind (piece kind text)) _ read e in
    let r = bind_ok (items_at setting kinds (left kind text)) _ read b.2 in
    let one = item_held setting kind (piece kind text) b.0 b.1 in
    let more = items_held setting kinds (left kind text) r.0 r.1 in (
      (one.0, more.0),
      ap (λ (i : Item). i ∷ items_of setting kinds more.0) one.1 ∙ ap (λ (is : List Item). b.0 ∷ is) more.1 ∙ done_is (b.0 ∷ r.0) read r.2,
    )
