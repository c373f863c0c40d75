-- What a line is spelled as says what the line says.
use Rattle.std.proofs.Common.{◌≡◌, ℕ, ◌+◌, ◌<◌, List, [], ◌∷◌, ◌++◌, length, take, drop, Bool, true, false, cond, Option}
use Rattle.std.proofs.Common.{Some}
use Rattle.std.proofs.Common.{Result, Ok, decimal, refl, sym, ap, ◌∙◌, subst, arith}
use Rattle.std.specs.Char.{is_ascii_digit}
use Rattle.std.specs.List.{list_all, prefix_len}
use Rattle.std.specs.Prelude.{flat_map}
use Rattle.std.proofs.Math.Seq.{take-length, drop-length, take-append_seam, drop-append_seam}
use Rattle.std.proofs.lemmas.Bool.{and_from, and_parts}
use Rattle.std.proofs.lemmas.List.{append-nil}
use Rattle.std.proofs.lemmas.Str.{is_utf8-from_IsUtf8}
use Rattle.gr_script.specs.declared.forms.FieldKind.{FieldKind}
use Rattle.gr_script.specs.declared.forms.FieldKind.TheVariants as field
use Rattle.gr_script.specs.declared.forms.LineKind.{LineKind}
use Rattle.gr_script.specs.declared.forms.LineKind.TheVariants as kind
use Rattle.gr_script.specs.declared.items.Item.{Item}
use Rattle.gr_script.specs.declared.items.Item.TheVariants as item
use Rattle.gr_script.specs.declared.items.Setting.{Setting}
use Rattle.gr_script.specs.declared.operation.Operation.TheVariants.{OfKey, OfValue, OfPair}
use Rattle.gr_script.specs.declared.reason.Reason.{Reason}
use Rattle.gr_script.specs.declared.saying.Saying.{Saying}
use Rattle.gr_script.specs.Cuts.{is_space, after_spaces, is_skipped}
use Rattle.gr_script.specs.Fields.{len_of, piece, left, is_filled, fits, first, second, form_of}
use Rattle.gr_script.specs.Forms.{word, fields, is_clients, client_kinds, other_kinds, kind_of}
use Rattle.gr_script.specs.Halts.{◌>>=◌}
use Rattle.gr_script.specs.Items.{item_at, items_at}
use Rattle.gr_script.specs.Printing.{field_text, field_texts, spaced, saying_text}
use Rattle.gr_script.specs.ReadBack.{IsReadBack}
use Rattle.gr_script.specs.Suiting.{AllSuit}
use Rattle.gr_script.specs.Rests.{begins_spaced}
use Rattle.gr_script.proofs.Fronts.{client_fields, client_kind, other_fields, other_kind, no_number, no_remark}
use Rattle.gr_script.proofs.PrintedFields.{GoesOn, IsBack, field_back, IsPlain, decimal_plain, word_plain, client_short}
use Rattle.gr_script.proofs.PrintedFields.{field_before_space, field_alone}
use Rattle.gr_script.proofs.Marks.{other_byte}
use Rattle.gr_script.proofs.PrintedNumbers.{decimal_spells}
use Rattle.gr_script.proofs.PrintedTexts.{Stands, spaced_stand, plain_stands, front_kept, said_whole}

-- Each field but the last one goes on.
abbrev LastAlone : List FieldKind → Type 0
LastAlone [] = Unit {0}
LastAlone (kind ∷ []) = Unit {0}
LastAlone (kind ∷ next ∷ kinds) = GoesOn kind × LastAlone (next ∷ kinds)

-- ---- the field in front, and what is left

after_one_space : (text : List ℕ) → begins_spaced text ≡ false → after_spaces (0x20 ∷ text) ≡ text
after_one_space [] front = refl
after_one_space (first ∷ rest) front = ap (λ b. drop (1 + cond b (1 + prefix_len is_space rest) 0) (0x20 ∷ first ∷ rest)) front

piece_alone : (kind : FieldKind) (text : List ℕ) → len_of kind text ≡ length text → piece kind text ≡ text
piece_alone kind text len = ap (λ n. take n text) len ∙ take-length text

left_alone : (kind : FieldKind) (text : List ℕ) → len_of kind text ≡ length text → left kind text ≡ []
left_alone kind text len = ap (λ n. after_spaces (drop n text)) len ∙ ap after_spaces (drop-length text)

piece_front : (kind : FieldKind) (text rest : List ℕ) → len_of kind (text ++ 0x20 ∷ rest) ≡ length text
    → piece kind (text ++ 0x20 ∷ rest) ≡ text
piece_front kind text rest len = ap (λ n. take n (text ++ 0x20 ∷ rest)) len ∙ take-append_seam text (0x20 ∷ rest)

left_front : (kind : FieldKind) (text rest : List ℕ) → len_of kind (text ++ 0x20 ∷ rest) ≡ length text → begins_spaced rest ≡ false
    → left kind (text ++ 0x20 ∷ rest) ≡ rest
left_front kind text rest len front =
    ap (λ n. after_spaces (drop n (text ++ 0x20 ∷ rest))) len ∙ ap after_spaces (drop-append_seam text (0x20 ∷ rest))
    ∙ after_one_space rest front

-- ---- all fields

pub record AreBack (setting : Setting) (kinds : List FieldKind) (items : List Item) (text : List ℕ) : Type 0 where
  pub stands : Stands text
  pub fit : fits kinds text ≡ true
  pub read : items_at setting kinds text ≡ Ok items

-- the rest of a line's items, where one is read
abbrev with_item : Setting → Result Item Reason → List FieldKind → List ℕ → Result (List Item) Reason
with_item setting found kinds text = found >>= λ item. items_at setting kinds text >>= λ items. Ok (item ∷ items)

module _ (setting : Setting) (line : LineKind) where
  alone_back : (kind : FieldKind) (item : Item) (text : List ℕ) → IsBack setting kind item text
      → AreBack setting (kind ∷ []) (item ∷ []) text
  alone_back kind item text back =
      let whole = piece_alone kind text back.alone in
      let rest = left_alone kind text back.alone in
      record {
        stands = back.stands;
        fit = and_from _ _ (ap (is_filled kind) whole ∙ back.filled) (ap (fits []) rest);
        read = ap (λ t. with_item setting (item_at setting kind t) [] (left kind text)) whole
            ∙ ap (λ found. with_item setting found [] (left kind text)) back.read;
      }

  more_back : (kind : FieldKind) (item : Item) (text : List ℕ) (kinds : List FieldKind) (items : List Item) (rest : List ℕ)
      → IsBack setting kind item text → GoesOn kind → AreBack setting kinds items rest
      → AreBack setting (kind ∷ kinds) (item ∷ items) (text ++ 0x20 ∷ rest)
  more_back kind item text kinds items rest back goes more =
      let whole = piece_front kind text rest (back.cut goes rest) in
      let behind = left_front kind text rest (back.cut goes rest) more.stands.front in
      record {
        stands = spaced_stand text rest back.stands more.stands;
        fit = and_from _ _ (ap (is_filled kind) whole ∙ back.filled) (ap (fits kinds) behind ∙ more.fit);
        read = ap (λ t. with_item setting (item_at setting kind t) kinds (left kind (text ++ 0x20 ∷ rest))) whole
            ∙ ap (λ found. with_item setting found kinds (left kind (text ++ 0x20 ∷ rest))) back.read
            ∙ ap (λ t. with_item setting (Ok item) kinds t) behind
            ∙ ap (λ found. found >>= λ items. Ok (item ∷ items)) more.read;
      }

  fields_back : (kind : FieldKind) (kinds : List FieldKind) (items : List Item) → LastAlone (kind ∷ kinds)
      → AllSuit setting (kind ∷ kinds) items
      → AreBack setting (kind ∷ kinds) items (spaced (field_texts line (kind ∷ kinds) items))
  fields_back kind kinds [] last suit = absurd suit
  fields_back kind [] (item ∷ []) last suit =
      subst (AreBack setting (kind ∷ []) (item ∷ [])) (sym (append-nil (field_text line kind item)))
      (alone_back kind item (field_text line kind item) (field_back setting line kind item suit.0))
  fields_back kind [] (item ∷ next ∷ items) last suit = absurd suit.1
  fields_back kind (next ∷ kinds) (item ∷ []) last suit = absurd suit.1
  fields_back kind (next ∷ kinds) (item ∷ other ∷ items) last suit =
      more_back kind item (field_text line kind item) (next ∷ kinds) (other ∷ items)
      (spaced (field_texts line (next ∷ kinds) (other ∷ items)))
      (field_back setting line kind item suit.0) last.0 (fields_back next kinds (other ∷ items) last.1 suit.1)

  all_back : (kinds : List FieldKind) (items : List Item) → 0 < length kinds → LastAlone kinds → AllSuit setting kinds items
      → AreBack setting kinds items (spaced (field_texts line kinds items))
  all_back [] items some last suit = absurd (omega (arith, some))
  all_back (kind ∷ kinds) items some last suit = fields_back kind kinds items last suit

last_alone : (line : LineKind) → LastAlone (fields line)
last_alone kind.Georep = (tt, tt)
last_alone kind.Region = (tt, tt)
last_alone kind.Members = (tt, (tt, tt))
last_alone kind.Shards = (tt, tt)
last_alone kind.Inbox = (tt, tt)
last_alone kind.Trouble = (tt, tt)
last_alone kind.Floor = (tt, tt)
last_alone kind.Client = (tt, (tt, (tt, tt)))
last_alone (kind.Call (OfKey operation)) = (tt, (tt, tt))
last_alone (kind.Call (OfValue operation)) = (tt, (tt, (tt, tt)))
last_alone (kind.Call (OfPair operation)) = (tt, (tt, (tt, (tt, tt))))
last_alone kind.Peek = (tt, (tt, tt))
last_alone kind.Open = (tt, (tt, (tt, tt)))
last_alone kind.Stop = (tt, (tt, tt))
last_alone kind.Close = (tt, (tt, tt))
last_alone kind.Fetch = (tt, (tt, tt))
last_alone kind.Deliver = (tt, (tt, tt))
last_alone kind.Report = (tt, tt)
last_alone kind.Hear = (tt, (tt, (tt, tt)))
last_alone kind.Sweep = (tt, (tt, tt))
last_alone kind.Join = (tt, (tt, tt))
last_alone kind.Depart = (tt, tt)
last_alone kind.Leave = (tt, (tt, tt))
last_alone kind.Back = (tt, (tt, tt))

some_fields : (line : LineKind) → 0 < length (fields line)
some_fields (kind.Call (OfKey operation)) = omega arith
some_fields (kind.Call (OfValue operation)) = omega arith
some_fields (kind.Call (OfPair operation)) = omega arith
some_fields kind.Georep = omega arith
some_fields _ = omega arith

pub saying_back : (setting : Setting) (line : LineKind) (items : List Item) → AllSuit setting (fields line) items
    → AreBack setting (fields line) items (spaced (field_texts line (fields line) items))
saying_back setting line items suit = all_back setting line (fields line) items (some_fields line) (last_alone line) suit

-- ---- the form, by the first field or the second

pub front_is : (text : List ℕ) (more : List (List ℕ)) → IsPlain text → first (spaced (text ∷ more)) ≡ text
front_is text [] plain = ap first (append-nil text) ∙ piece_alone field.Word text (field_alone text plain.each)
front_is text (next ∷ more) plain =
    piece_front field.Word text (spaced (next ∷ more)) (field_before_space text (spaced (next ∷ more)) plain.each)

second_is : (text next : List ℕ) (more : List (List ℕ)) → IsPlain text → IsPlain next → second (spaced (text ∷ next ∷ more)) ≡ next
second_is text next more plain other =
    ap first (left_front field.Word text (spaced (next ∷ more)) (field_before_space text (spaced (next ∷ more)) plain.each)
    (front_kept next (flat_map (λ t. 0x20 ∷ t) more) other.some ∙ (plain_stands next other.some other.each).front))
    ∙ front_is next more other

-- the form of a line with these fields in front
abbrev form_by : List ℕ → List ℕ → Option LineKind
form_by one two = cond (list_all is_ascii_digit one) (kind_of client_kinds two) (kind_of other_kinds one)

pub record IsFormed (line : LineKind) (text : List ℕ) : Type 0 where
  pub form : form_of text ≡ Some line
  pub said : is_skipped text ≡ false

skipped_front : (text : List ℕ) (more : List (List ℕ)) → 0 < length text → is_skipped (spaced (text ∷ more)) ≡ is_skipped text
skipped_front [] more some = absurd (omega (arith, some))
skipped_front (first ∷ text) more some = refl

digits_said : (digits : List ℕ) → 0 < length digits → list_all is_ascii_digit digits ≡ true → is_skipped digits ≡ false
digits_said [] some all = absurd (omega (arith, some))
digits_said (digit ∷ digits) some all =
    other_byte is_ascii_digit 0x23 digit refl (and_parts (is_ascii_digit digit) (list_all is_ascii_digit digits) all).0

module _ (setting : Setting) (line : LineKind) where
  other_formed : (kinds : List FieldKind) (items : List Item) → AllSuit setting (field.Word ∷ kinds) items
      → list_all is_ascii_digit (word line) ≡ false → kind_of other_kinds (word line) ≡ Some line → is_skipped (word line) ≡ false
      → IsFormed line (spaced (field_texts line (field.Word ∷ kinds) items))
  other_formed kinds [] suit isnt is unskipped = absurd suit
  other_formed kinds (item ∷ items) suit isnt is unskipped =
      let more = field_texts line kinds items in
      let whole = spaced (word line ∷ more) in
      record {
        form = ap (λ f. form_by f (second whole)) (front_is (word line) more (word_plain line))
            ∙ ap (λ b. cond b (kind_of client_kinds (second whole)) (kind_of other_kinds (word line))) isnt ∙ is;
        said = skipped_front (word line) more (word_plain line).some ∙ unskipped;
      }

  client_formed : (kinds : List FieldKind) (items : List Item) → AllSuit setting (field.Client ∷ field.Word ∷ kinds) items
      → kind_of client_kinds (word line) ≡ Some line
      → IsFormed line (spaced (field_texts line (field.Client ∷ field.Word ∷ kinds) items))
  client_formed kinds (item.Client client ∷ other ∷ items) suit is =
      let few = client_short setting client suit.0 in
      let plain = decimal_plain client few in
      let digits = (decimal_spells client few).each in
      let more = field_texts line kinds items in
      let whole = spaced (decimal client ∷ word line ∷ more) in
      record {
        form = ap (λ f. form_by f (second whole)) (front_is (decimal client) (word line ∷ more) plain)
            ∙ ap (λ b. cond b (kind_of client_kinds (second whole)) (kind_of other_kinds (decimal client))) digits
            ∙ ap (kind_of client_kinds) (second_is (decimal client) (word line) more plain (word_plain line)) ∙ is;
        said = skipped_front (decimal client) (word line ∷ more) plain.some ∙ digits_said (decimal client) plain.some digits;
      }
  client_formed kinds (item.Client client ∷ []) suit is = absurd suit.1
  client_formed kinds [] suit is = absurd suit
  client_formed kinds (_ ∷ items) suit is = absurd suit.0

pub saying_formed : (setting : Setting) (line : LineKind) (items : List Item) → AllSuit setting (fields line) items
    → IsFormed line (spaced (field_texts line (fields line) items))
saying_formed setting line items suit = by_case (is_clients line) refl
  where
    same : (kinds : List FieldKind) → fields line ≡ kinds
        → (AllSuit setting kinds items → IsFormed line (spaced (field_texts line kinds items)))
        → IsFormed line (spaced (field_texts line (fields line) items))
    same kinds e formed =
        subst (λ (ks : List FieldKind). IsFormed line (spaced (field_texts line ks items))) (sym e)
        (formed (subst (λ (ks : List FieldKind). AllSuit setting ks items) e suit))

    by_case : (clients : Bool) → is_clients line ≡ clients → IsFormed line (spaced (field_texts line (fields line) items))
    by_case true is = same _ (client_fields line is)
        (λ suits. client_formed setting line (drop 2 (fields line)) items suits (client_kind line is))
    by_case false isnt = same _ (other_fields line isnt)
        (λ suits. other_formed setting line (drop 1 (fields line)) items suits (no_number line) (other_kind line isnt) (no_remark line))

pub read_back : (setting : Setting) (saying : Saying) → AllSuit setting (fields saying.kind) saying.items
    → IsReadBack setting saying (saying_text saying)
read_back setting saying suit =
    let back = saying_back setting saying.kind saying.items suit in
    let formed = saying_formed setting saying.kind saying.items suit in
    record {
      alone = back.stands.line;
      readable = is_utf8-from_IsUtf8 (saying_text saying) back.stands.readable;
      whole = said_whole (saying_text saying) back.stands;
      said = formed.said;
      form = formed.form;
      fit = back.fit;
      read = back.read;
    }
