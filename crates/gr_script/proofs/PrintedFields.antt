-- A field of a line is read from what its item is spelled as.
use Rattle.std.proofs.Common.{◌≡◌, ℕ, ◌+◌, ◌<◌, ◌≤◌, List, [], ◌∷◌, ◌++◌, length, true, false, not}
use Rattle.std.proofs.Common.{cond}
use Rattle.std.proofs.Common.{eqb, ltb, Result, Ok, Err, decimal, refl, sym, ap, ◌∙◌, arith}
use Rattle.std.proofs.Common.{length-append, get_or}
use Rattle.std.specs.Prelude.{codes}
use Rattle.std.specs.List.{list_all, list_any}
use Rattle.std.specs.Option.{ok_or}
use Rattle.std.specs.Char.{is_ascii_digit}
use Rattle.std.proofs.lemmas.Bool.{and_parts, and_from, or_from, le-ltb, ne_eqb}
use Rattle.std.proofs.lemmas.List.Folds.{list_all-append}
use Rattle.std.proofs.lemmas.List.{append-nil}
use Rattle.std.proofs.lemmas.List.Elements.{All-get_or}
use Rattle.std.proofs.lemmas.List.Recursion.{or_from_places}
use Rattle.std.proofs.lemmas.Str.{IsUtf8-from_is_utf8}
use Rattle.gr_value.specs.KeyBytes.{is_key_byte, IsKey}
use Rattle.gr_value.specs.declared.value.Field.{Field}
use Rattle.gr_value.specs.Values.{IsValue}
use Rattle.gr_value.specs.ValueText.{value_text}
use Rattle.gr_value.proofs.Keys.{key_bytes}
use Rattle.gr_value.proofs.OneLine.{text_visible}
use Rattle.gr_value.proofs.RoundTrip.{value_read_back, utf8_text}
use Rattle.gr_script.specs.declared.forms.FieldKind.{FieldKind}
use Rattle.gr_script.specs.declared.forms.FieldKind.TheVariants as field
use Rattle.gr_script.specs.declared.forms.LineKind.{LineKind}
use Rattle.gr_script.specs.declared.forms.LineKind.TheVariants as kind
use Rattle.gr_script.specs.declared.items.Item.{Item}
use Rattle.gr_script.specs.declared.items.Item.TheVariants.{Word, Number, Member, Client, Ordinal, Step, Key, Value, Query}
use Rattle.gr_script.specs.declared.items.Setting.{Setting}
use Rattle.gr_script.specs.declared.operation.Keyed.TheVariants.{Get}
use Rattle.gr_script.specs.declared.operation.Operation.{Operation}
use Rattle.gr_script.specs.declared.operation.Operation.TheVariants.{OfKey, OfValue, OfPair}
use Rattle.gr_script.specs.declared.operation.Paired.TheVariants.{ReplaceIf}
use Rattle.gr_script.specs.declared.operation.Valued.TheVariants.{Put}
use Rattle.gr_script.specs.declared.reason.Reason.{Reason}
use Rattle.gr_script.specs.declared.reason.Reason.TheVariants as reason
use Rattle.gr_script.specs.Cuts.{is_space, ends_with, field_len}
use Rattle.gr_script.specs.Fields.{len_of, is_filled}
use Rattle.gr_script.specs.Forms.{word}
use Rattle.gr_script.specs.Halts.{◌>>=◌, unless}
use Rattle.gr_script.specs.Operations.{operation_word}
use Rattle.gr_script.specs.Items.{number_at, within, number_in, stated_client, dotted_numbers, item_at}
use Rattle.gr_oql.specs.Questions.{question_of}
use Rattle.gr_script.specs.Items.{key_from, value_from, query_from, own_query, query_at}
use Rattle.gr_script.specs.Pieces.{piece_len}
use Rattle.gr_script.specs.Printing.{field_text}
use Rattle.gr_script.specs.Rules.{IsWithin, is_region}
use Rattle.gr_script.specs.Suiting.{IsShort, IsClient, IsOwnQuery, Suits}
use Rattle.gr_script.specs.Rests.{begins_spaced}
use Rattle.gr_oql.specs.Question.{Question}
use Rattle.gr_script.specs.Texts.{IsLine}
use Rattle.gr_script.proofs.Questions.{query_spelled}
use Rattle.gr_script.proofs.QueryEnds.{query_ends, query_some}
use Rattle.gr_script.proofs.Marks.{other_byte, unmarked, cut_at, all_turn, region_bytes}
use Rattle.gr_script.proofs.PrintedNumbers.{decimal_spells, number_back}
use Rattle.gr_script.proofs.PrintedTexts.{Stands, plain_stands, ends_append}
use Rattle.gr_script.proofs.PrintedValues.{value_piece, inner, braced}
use Rattle.gr_script.specs.Limits.{most_clients}

-- ---- the bytes of such texts

-- A text has bytes, all of them a key's.
pub record IsPlain (text : List ℕ) : Type 0 where
  pub some : 0 < length text
  pub each : list_all is_key_byte text ≡ true

digit_is_key_byte : (byte : ℕ) → is_ascii_digit byte ≡ true → is_key_byte byte ≡ true
digit_is_key_byte byte is = grind arith

digits_are_key_bytes : (digits : List ℕ) → list_all is_ascii_digit digits ≡ true → list_all is_key_byte digits ≡ true
digits_are_key_bytes = all_turn is_ascii_digit is_key_byte digit_is_key_byte

pub decimal_plain : (number : ℕ) → IsShort number → IsPlain (decimal number)
decimal_plain number few = let spells = decimal_spells number few in
    record { some = spells.some; each = digits_are_key_bytes (decimal number) spells.each }

dotted_plain : (client seq : ℕ) → IsShort client → IsShort seq → IsPlain (decimal client ++ 0x2E ∷ decimal seq)
dotted_plain client seq few_clients few = record {
  some = omega (arith, length-append (decimal client) (0x2E ∷ decimal seq));
  each =
      list_all-append is_key_byte (decimal client) (0x2E ∷ decimal seq)
      ∙ and_from _ _ (decimal_plain client few_clients).each (decimal_plain seq few).each;
}

key_some : (key : List ℕ) → IsKey key → 0 < length key
key_some [] is = absurd cc
key_some (first ∷ rest) is = omega arith

key_plain : (key : List ℕ) → IsKey key → IsPlain key
key_plain key is = record { some = key_some key is; each = key_bytes key is }

operation_plain : (operation : Operation) → IsPlain (operation_word operation)
operation_plain (OfKey Get) = record { some = omega arith; each = refl }
operation_plain (OfKey _) = record { some = omega arith; each = refl }
operation_plain (OfValue Put) = record { some = omega arith; each = refl }
operation_plain (OfValue _) = record { some = omega arith; each = refl }
operation_plain (OfPair ReplaceIf) = record { some = omega arith; each = refl }

pub word_plain : (line : LineKind) → IsPlain (word line)
word_plain (kind.Call operation) = operation_plain operation
word_plain kind.Georep = record { some = omega arith; each = refl }
word_plain _ = record { some = omega arith; each = refl }

-- ---- where such a field ends

key_byte_no_space : (byte : ℕ) → is_key_byte byte ≡ true → is_space byte ≡ false
key_byte_no_space byte is = other_byte is_key_byte 0x20 byte refl is

pub field_before_space : (text rest : List ℕ) → list_all is_key_byte text ≡ true → field_len (text ++ 0x20 ∷ rest) ≡ length text
field_before_space [] rest all = refl
field_before_space (first ∷ text) rest all =
    let parts = and_parts (is_key_byte first) (list_all is_key_byte text) all in
    ap (λ b. cond (not b) (1 + field_len (text ++ 0x20 ∷ rest)) 0) (key_byte_no_space first parts.0)
    ∙ omega (arith, field_before_space text rest parts.1)

pub field_alone : (text : List ℕ) → list_all is_key_byte text ≡ true → field_len text ≡ length text
field_alone [] all = refl
field_alone (first ∷ text) all =
    let parts = and_parts (is_key_byte first) (list_all is_key_byte text) all in
    ap (λ b. cond (not b) (1 + field_len text) 0) (key_byte_no_space first parts.0) ∙ omega (arith, field_alone text parts.1)

-- ---- each kind of field

-- All kinds but a query's text stand in front of others.
abbrev pub GoesOn : FieldKind → Type 0
GoesOn field.Query = ⊥
GoesOn _ = Unit {0}

-- A field's text stands on a line, and is read there as its item.
pub record IsBack (setting : Setting) (kind : FieldKind) (item : Item) (text : List ℕ) : Type 0 where
  pub stands : Stands text
  pub filled : is_filled kind text ≡ true
  pub read : item_at setting kind text ≡ Ok item
  pub alone : len_of kind text ≡ length text
  pub cut : GoesOn kind → (rest : List ℕ) → len_of kind (text ++ 0x20 ∷ rest) ≡ length text

is_there : (text : List ℕ) → 0 < length text → not (eqb (length text) 0) ≡ true
is_there text some = ap not (ne_eqb (length text) 0 (λ e. omega (arith, e, some)))

plain_back : (setting : Setting) (kind : FieldKind) (item : Item) (text : List ℕ) → IsPlain text
    → ((t : List ℕ) → len_of kind t ≡ field_len t)
    → is_filled kind text ≡ true → item_at setting kind text ≡ Ok item → IsBack setting kind item text
plain_back setting kind item text plain field filled read = record {
  stands = plain_stands text plain.some plain.each;
  filled = filled;
  read = read;
  alone = field text ∙ field_alone text plain.each;
  cut = λ _ rest. field (text ++ 0x20 ∷ rest) ∙ field_before_space text rest plain.each;
}

number_at_back : (number : ℕ) → IsShort number → number_at (decimal number) ≡ Ok number
number_at_back number few = ap (λ found. ok_or found reason.Number) (number_back number few)

within_back : (least most number : ℕ) → IsWithin least most number → within least most number ≡ Ok number
within_back least most number is =
    ap (λ test. cond test (Err reason.Range) (Ok number)) (or_from _ _ (le-ltb number least is.0) (le-ltb most number is.1))

client_back : (setting : Setting) (client : ℕ) → IsClient setting client → stated_client setting client ≡ Ok client
client_back setting client is =
    ap (λ found. found >>= λ client. unless (ltb setting.clients client) reason.Client client) (within_back 1 most_clients client is.0)
    ∙ ap (λ test. cond test (Err reason.Client) (Ok client)) (le-ltb setting.clients client is.1)

pub client_short : (setting : Setting) (client : ℕ) → IsClient setting client → IsShort client
client_short setting client is = omega (arith, is.0.1)

number_in_back : (least most number : ℕ) → IsWithin least most number → IsShort number → number_in least most (decimal number) ≡ Ok number
number_in_back least most number is few =
    ap (λ found. found >>= within least most) (number_at_back number few) ∙ within_back least most number is

abbrev step_from : Setting → Result (ℕ × ℕ) Reason → Result Item Reason
step_from setting found = found >>= λ numbers. stated_client setting numbers.0 >>= λ client. Ok (Step client numbers.1)

step_back : (setting : Setting) (client seq : ℕ) → IsClient setting client → IsShort seq
    → item_at setting field.Step (decimal client ++ 0x2E ∷ decimal seq) ≡ Ok (Step client seq)
step_back setting client seq is few =
    let cut = cut_at 0x2E (decimal client) (decimal seq)
    (unmarked is_ascii_digit 0x2E (decimal client) refl (decimal_spells client (client_short setting client is)).each) in
    ap (λ parts. step_from setting (dotted_numbers parts)) cut
    ∙ ap (λ found. step_from setting (found >>= λ c. number_at (decimal seq) >>= λ s. Ok (c, s)))
    (number_at_back client (client_short setting client is))
    ∙ ap (λ found. step_from setting (found >>= λ s. Ok (client, s))) (number_at_back seq few)
    ∙ ap (λ found. found >>= λ c. Ok (Step c seq)) (client_back setting client is)

region_some : (region : List ℕ) → is_region region ≡ true → 0 < length region
region_some [] is = absurd cc
region_some (first ∷ word) is = omega arith

value_line : (value : List Field) → IsValue value → IsLine (value_text value)
value_line value is = or_from_places (list_any (λ byte. eqb byte 0x0A)) (λ byte. eqb byte 0x0A) refl (λ x xs. refl) (value_text value) 0
    (λ i within. ne_eqb (get_or (value_text value) i 0) 0x0A
    (λ e. omega (arith, e, All-get_or (λ byte. 32 ≤ byte) (value_text value) i 0 within (text_visible value is))))

value_stands : (value : List Field) → IsValue value → Stands (value_text value)
value_stands value is =
    let text = braced value in
    let ends : (mark : ℕ) → ends_with mark (value_text value) ≡ eqb 125 mark =
    λ mark. ap (ends_with mark) text ∙ ends_append mark (123 ∷ inner value) 125 [] in
    record {
      some = omega (arith, ap (length {A = ℕ}) text);
      front = ap begins_spaced text;
      back = ends 0x20;
      no_return = ends 0x0D;
      line = value_line value is;
      readable = utf8_text value is.readable;
    }

query_read : (setting : Setting) (query : Question) → IsOwnQuery setting query → query_at setting query.text ≡ Ok query
query_read setting query is =
    ap (λ test. cond (not test) (Err reason.Utf8) (Ok query.text) >>= λ text. query_from
    (question_of text) >>= own_query setting) is.readable
    ∙ ap (λ found. found >>= own_query setting) (query_spelled query.text query is.spelled)
    ∙ ap (λ test. cond (not test) (Err reason.Region) (Ok query)) is.own

query_stands : (setting : Setting) (query : Question) → IsOwnQuery setting query → Stands query.text
query_stands setting query is =
    let some = query_some query.text query is.spelled in
    record {
      some = some;
      front = is.rest.front;
      back = is.rest.back;
      no_return = query_ends query.text query is.spelled some;
      line = is.rest.line;
      readable = IsUtf8-from_is_utf8 query.text is.readable;
    }

pub field_back : (setting : Setting) (line : LineKind) (kind : FieldKind) (item : Item) → Suits setting kind item
    → IsBack setting kind item (field_text line kind item)
field_back setting line field.Word Word suits =
    let plain = word_plain line in
    plain_back setting field.Word Word (word line) plain (λ t. refl) (is_there (word line) plain.some) refl
field_back setting line field.At Word suits =
    plain_back setting field.At Word (codes "at") (record { some = omega arith; each = refl }) (λ t. refl) refl refl
field_back setting line field.Version Word suits =
    plain_back setting field.Version Word (codes "1") (record { some = omega arith; each = refl }) (λ t. refl) refl refl
field_back setting line field.Region (Key region) suits =
    let each = region_bytes region suits in
    let some = region_some region suits in
    plain_back setting field.Region (Key region) region (record { some = some; each = each }) (λ t. refl) (is_there region some)
    (ap (λ test. cond (not test) (Err reason.Name) (Ok region) >>= λ name. Ok (Key name)) suits)
field_back setting line (field.Number least most) (Number number) suits =
    let plain = decimal_plain number suits.1 in
    plain_back setting (field.Number least most) (Number number) (decimal number) plain (λ t. refl) (is_there (decimal number) plain.some)
    (ap (λ found. found >>= λ n. Ok (Number n)) (number_in_back least most number suits.0 suits.1))
field_back setting line field.Member (Member member) suits =
    let plain = decimal_plain member suits.1 in
    plain_back setting field.Member (Member member) (decimal member) plain (λ t. refl) (is_there (decimal member) plain.some)
    (ap (λ found. found >>= λ m. Ok (Member m)) (number_in_back 1 setting.members member suits.0 suits.1))
field_back setting line field.Client (Client client) suits =
    let few = client_short setting client suits in
    let plain = decimal_plain client few in
    plain_back setting field.Client (Client client) (decimal client) plain (λ t. refl) (is_there (decimal client) plain.some)
    (ap (λ found. found >>= stated_client setting >>= λ c. Ok (Client c)) (number_at_back client few)
    ∙ ap (λ found. found >>= λ c. Ok (Client c)) (client_back setting client suits))
field_back setting line field.Ordinal (Ordinal number) suits =
    let plain = decimal_plain number suits in
    plain_back setting field.Ordinal (Ordinal number) (decimal number) plain (λ t. refl) (is_there (decimal number) plain.some)
    (ap (λ found. found >>= λ n. Ok (Ordinal n)) (number_at_back number suits))
field_back setting line field.Step (Step client seq) suits =
    let plain = dotted_plain client seq (client_short setting client suits.0) suits.1 in
    plain_back setting field.Step (Step client seq) (decimal client ++ 0x2E ∷ decimal seq) plain (λ t. refl)
    (is_there (decimal client ++ 0x2E ∷ decimal seq) plain.some) (step_back setting client seq suits.0 suits.1)
field_back setting line field.Key (Key key) suits =
    let plain = key_plain key suits in
    plain_back setting field.Key (Key key) key plain (λ t. refl) (is_there key plain.some)
    (ap (λ fault. key_from key fault >>= λ k. Ok (Key k)) suits)
field_back setting line field.Value (Value value) suits =
    let stands = value_stands value suits in
    record {
      stands = stands;
      filled = is_there (value_text value) stands.some;
      read = ap (λ found. value_from found >>= λ v. Ok (Value v)) (value_read_back value suits);
      alone = ap piece_len (sym (append-nil (value_text value))) ∙ value_piece value [] suits;
      cut = λ _ rest. value_piece value (0x20 ∷ rest) suits;
    }
field_back setting line field.Query (Query query) suits =
    let stands = query_stands setting query suits in
    record {
      stands = stands;
      filled = is_there query.text stands.some;
      read = ap (λ found. found >>= λ q. Ok (Query q)) (query_read setting query suits);
      alone = refl;
      cut = λ none. absurd none;
    }
field_back setting line _ _ suits = absurd suits
