-- A query's text that is read from a line is the rest of that line.
use Rattle.std.proofs.Common.{◌≡◌, ℕ, ◌+◌, ◌<◌, ◌-◌, suc, List, [], ◌∷◌, ◌++◌, length, take, drop, Bool, true, false, cond, eqb}
use Rattle.std.proofs.Common.{Result, Ok, Err}
use Rattle.std.proofs.Common.{reverse, get_or, refl, sym, ap, ◌∙◌, subst, arith, inl, inr}
use Rattle.std.specs.List.{prefix_len, suffix_len, list_any, onto_first, AllByRecursion}
use Rattle.std.proofs.lemmas.Bool.{cases_Bool, or_parts, or_from}
use Rattle.std.proofs.Math.Seq.{take-length}
use Rattle.std.proofs.lemmas.List.{take-append-drop, length-take-le, get_or-take, get_or-reverse, length-reverse}
use Rattle.std.proofs.lemmas.List.Sums.{prefix_len_stops}
use Rattle.std.proofs.lemmas.List.Folds.{list_any-append}
use Rattle.gr_oql.specs.declared.fault.OqlFault.{OqlFault}
use Rattle.gr_lex.specs.Reader.Reading.{tokens_of}
use Rattle.gr_lex.specs.declared.fault.LexFault.{LexFault}
use Rattle.gr_lex.specs.declared.token.Token.{Token}
use Rattle.gr_oql.specs.Question.{Asked, Question}
use Rattle.gr_oql.specs.Questions.{question_of}
use Rattle.gr_oql.specs.Reader.Answers.{answer, answer_of_tokens}
use Rattle.gr_oql.specs.Reader.Reading.{Reading, query_at as query_at_tokens}
use Rattle.gr_oql.specs.Terminals.{terminals_of}
use Rattle.gr_script.specs.declared.forms.FieldKind.{FieldKind}
use Rattle.gr_script.specs.declared.forms.FieldKind.TheVariants as field
use Rattle.gr_script.specs.declared.items.Item.{Item}
use Rattle.gr_script.specs.declared.items.Item.TheVariants as item
use Rattle.gr_script.specs.declared.items.Setting.{Setting}
use Rattle.gr_script.specs.declared.reason.Reason.{Reason}
use Rattle.gr_script.specs.declared.reason.Reason.TheVariants as reason
use Rattle.gr_script.specs.Cuts.{is_space, ends_with, without_return, after_spaces, before_spaces, text_said}
use Rattle.gr_script.specs.Fields.{len_of, piece, left}
use Rattle.gr_script.specs.Halts.{◌>>=◌, unless}
use Rattle.gr_script.specs.Items.{dotted_numbers, stated_client, item_at, items_at, query_from, query_at, text_at}
use Rattle.gr_script.specs.Rests.{begins_spaced, IsRest}
use Rattle.gr_script.specs.Suiting.{IsRestItem, AreRests}
use Rattle.gr_script.specs.Texts.{IsLine, cut, lines_of}
use Rattle.gr_script.proofs.PrintedTexts.{ends_back, last_is}
use Rattle.gr_script.proofs.Texts.{lines_here, lines_there}

-- ---- what is left of a rest is one

rest_line : (n : ℕ) (text : List ℕ) → IsLine text → IsLine (drop n text)
rest_line n text line =
    let parts = list_any-append (λ byte. eqb byte 0x0A) (take n text) (drop n text) in
    (or_parts (list_any (λ byte. eqb byte 0x0A) (take n text)) (list_any (λ byte. eqb byte 0x0A) (drop n text))
    (sym parts ∙ ap (list_any (λ byte. eqb byte 0x0A)) (take-append-drop n text) ∙ line)).1

rest_end : (mark : ℕ) (front rest text : List ℕ) → front ++ rest ≡ text → ends_with mark text ≡ false → ends_with mark rest ≡ false
rest_end mark front [] text whole isnt = refl
rest_end mark front (first ∷ rest) text whole isnt =
    sym (ends_back mark front (first ∷ rest) (omega arith)) ∙ ap (ends_with mark) whole ∙ isnt

after_front : (text : List ℕ) → begins_spaced (after_spaces text) ≡ false
after_front [] = refl
after_front (first ∷ rest) =
    elim (cases_Bool (is_space first)) [
      | inl is ↦
          let more : prefix_len is_space (first ∷ rest) ≡ suc (prefix_len is_space rest) =
          ap (λ b. cond b (1 + prefix_len is_space rest) 0) is ∙ omega arith in
          ap (λ n. begins_spaced (drop n (first ∷ rest))) more ∙ after_front rest
      | inr isnt ↦ ap (λ b. begins_spaced (drop (cond b (1 + prefix_len is_space rest) 0) (first ∷ rest))) isnt ∙ isnt
    ]

rest_dropped : (n : ℕ) (text : List ℕ) → IsRest text → IsRest (after_spaces (drop n text))
rest_dropped n text is =
    let rest = drop n text in
    let spaces = prefix_len is_space rest in
    record {
      line = rest_line spaces rest (rest_line n text is.line);
      front = after_front rest;
      back = rest_end 0x20 (take spaces rest) (drop spaces rest) rest (take-append-drop spaces rest)
          (rest_end 0x20 (take n text) rest text (take-append-drop n text) is.back);
    }

-- ---- what is read

same : {X : Type 0} (x y : X) → ◌≡◌ {A = Result X Reason} (Ok x) (Ok y) → x ≡ y
same x y e = cc

then : {X Y : Type 0} (P : Type 0) (found : Result X Reason) (next : X → Result Y Reason) (y : Y)
    → ((x : X) → found ≡ Ok x → next x ≡ Ok y → P) → (found >>= next) ≡ Ok y → P
then P (Ok x) next y go e = go x refl e
then P (Err why) next y go e = absurd cc

asked_text : (text : List ℕ) (tokens : List Token) (read : Reading Asked) (query : Question) → answer text tokens read ≡ Ok query
    → query.text ≡ text
asked_text text tokens (Ok x) query e = let h : record { text = text; asked = x.0 } ≡ query = cc in ap (λ q. q.text) (sym h)
asked_text text tokens (Err why) query e = absurd cc

question_text : (text : List ℕ) (lexed : Result (List Token) LexFault) (query : Question) → answer_of_tokens text lexed ≡ Ok query
    → query.text ≡ text
question_text text (Ok tokens) query e = asked_text text tokens (query_at_tokens (terminals_of text tokens)) query e
question_text text (Err fault) query e = absurd cc

from_text : (text : List ℕ) (found : Result Question OqlFault) (query : Question) → ((q : Question) → found ≡ Ok q → q.text ≡ text)
    → query_from found ≡ Ok query → query.text ≡ text
from_text text (Ok q) query is e = ap (λ q. q.text) (sym (same q query e)) ∙ is q refl
from_text text (Err fault) query is e = absurd cc

unless_is : {X : Type 0} (test : Bool) (why : Reason) (x y : X) → unless test why x ≡ Ok y → x ≡ y
unless_is true why x y e = absurd cc
unless_is false why x y e = same x y e

query_text : (setting : Setting) (text : List ℕ) (query : Question) → query_at setting text ≡ Ok query → query.text ≡ text
query_text setting text query e = then (query.text ≡ text) (text_at text) _ query (λ t readable.
    then (query.text ≡ text) (query_from (question_of t)) _ query (λ q asked owned.
    ap (λ q. q.text) (sym (unless_is _ reason.Region q query owned))
    ∙ from_text t (question_of t) q (λ found. question_text t (tokens_of t) found) asked
    ∙ sym (unless_is _ reason.Utf8 text t readable))) e

-- where the field is a query's, its piece is a rest
abbrev QueryRest : FieldKind → List ℕ → Type 0
QueryRest field.Query text = IsRest text
QueryRest _ text = Unit {0}

-- an item of another sort
plain_rest : {X : Type 0} (make : X → Item) (read : Result X Reason) (found : Item) → ((x : X) → IsRestItem (make x))
    → (read >>= λ x. Ok (make x)) ≡ Ok found → IsRestItem found
plain_rest make read found plain e = then (IsRestItem found) read (λ x. Ok (make x)) found
    (λ x was this. subst IsRestItem (same (make x) found this) (plain x)) e

item_rest : (setting : Setting) (kind : FieldKind) (text : List ℕ) (found : Item) → QueryRest kind text
    → item_at setting kind text ≡ Ok found → IsRestItem found
item_rest setting field.Query text found is e = then (IsRestItem found) (query_at setting text) _ found (λ query read this.
    subst IsRestItem (same (item.Query query) found this) (subst IsRest (sym (query_text setting text query read)) is)) e
item_rest setting field.Region text found is e = plain_rest item.Key _ found (λ x. tt) e
item_rest setting field.Key text found is e = plain_rest item.Key _ found (λ x. tt) e
item_rest setting field.Value text found is e = plain_rest item.Value _ found (λ x. tt) e
item_rest setting (field.Number least most) text found is e = plain_rest item.Number _ found (λ x. tt) e
item_rest setting field.Member text found is e = plain_rest item.Member _ found (λ x. tt) e
item_rest setting field.Client text found is e = plain_rest item.Client _ found (λ x. tt) e
item_rest setting field.Ordinal text found is e = plain_rest item.Ordinal _ found (λ x. tt) e
item_rest setting field.Step text found is e =
    then (IsRestItem found) (dotted_numbers (cut 0x2E text))
    (λ (numbers : ℕ × ℕ). stated_client setting numbers.0 >>= λ c. Ok (item.Step c numbers.1)) found (λ numbers read more.
    then (IsRestItem found) (stated_client setting numbers.0) (λ c. Ok (item.Step c numbers.1)) found
    (λ c stated this. subst IsRestItem (same (item.Step c numbers.1) found this) tt) more) e
item_rest setting _ text found is e = subst IsRestItem (same item.Word found e) tt

piece_rest : (kind : FieldKind) (text : List ℕ) → IsRest text → QueryRest kind (piece kind text)
piece_rest field.Query text is = subst IsRest (sym (take-length text)) is
piece_rest _ text is = tt

pub rests_read : (setting : Setting) (kinds : List FieldKind) (text : List ℕ) (items : List Item) → IsRest text
    → items_at setting kinds text ≡ Ok items → AreRests items
rests_read setting [] text items is e = subst AreRests (same [] items e) tt
rests_read setting (kind ∷ kinds) text items is e = then (AreRests items) _ _ items (λ found read more.
    then (AreRests items) _ _ items (λ rest others this. subst AreRests (same (found ∷ rest) items this) (
      item_rest setting kind (piece kind text) found (piece_rest kind text is) read,
      rests_read setting kinds (left kind text) rest (rest_dropped (len_of kind text) text is) others,
    )) more) e

-- ---- lines

front_line : (n : ℕ) (text : List ℕ) → IsLine text → IsLine (take n text)
front_line n text line =
    (or_parts (list_any (λ byte. eqb byte 0x0A) (take n text)) (list_any (λ byte. eqb byte 0x0A) (drop n text))
    (sym (list_any-append (λ byte. eqb byte 0x0A) (take n text) (drop n text))
    ∙ ap (list_any (λ byte. eqb byte 0x0A)) (take-append-drop n text)
    ∙ line)).0

kept_line : (test : Bool) (line : List ℕ) → IsLine line → IsLine (cond test (take (length line - 1) line) line)
kept_line true line alone = front_line (length line - 1) line alone
kept_line false line alone = alone

-- where the spaces behind a text are taken off, it ends with none
no_space_behind : (text : List ℕ) → ends_with 0x20 (before_spaces text) ≡ false
no_space_behind text = go (take (length text - suffix_len is_space text) text) refl
  where
    go : (front : List ℕ) → before_spaces text ≡ front → ends_with 0x20 front ≡ false
    go [] is = refl
    go (first ∷ rest) is =
        let spaces = suffix_len is_space text in
        let n = length text - spaces in
        let len : length (first ∷ rest) ≡ n = ap (length {A = ℕ}) (sym is) ∙ length-take-le n text (omega arith) in
        let last : length rest ≡ n - 1 = omega (arith, len) in
        let some : spaces < length text = omega (arith, len) in
        let there : n - 1 ≡ length text - 1 - spaces = omega (arith, some) in
        let within : spaces < length (reverse text) = omega (arith, some, length-reverse text) in
        last_is 0x20 first rest ∙ ap (λ xs. is_space (get_or xs (length rest) 0)) (sym is)
        ∙ ap (λ i. is_space (get_or (take n text) i 0)) last
        ∙ ap is_space (get_or-take n text (n - 1) 0 (omega (arith, some)))
        ∙ ap (λ i. is_space (get_or text i 0)) there ∙ ap is_space (sym (get_or-reverse text spaces 0 some))
        ∙ prefix_len_stops is_space (reverse text) 0 within

-- what is said on a line is a rest
pub said_rest : (line : List ℕ) → IsLine line → IsRest (text_said line)
said_rest line alone =
    let kept = without_return line in
    let short = before_spaces kept in
    let spaces = prefix_len is_space short in
    record {
      line = rest_line spaces short
          (front_line (length kept - suffix_len is_space kept) kept (kept_line (ends_with 0x0D line) line alone));
      front = after_front short;
      back = rest_end 0x20 (take spaces short) (drop spaces short) short (take-append-drop spaces short) (no_space_behind kept);
    }

first_is_line : (byte : ℕ) (lines : List (List ℕ)) → eqb byte 10 ≡ false → AllByRecursion IsLine lines
    → AllByRecursion IsLine (onto_first byte lines)
first_is_line byte [] isnt all = (or_from (eqb byte 10) false isnt refl, tt)
first_is_line byte (line ∷ lines) isnt all = (or_from (eqb byte 10) (list_any (λ b. eqb b 10) line) isnt all.0, all.1)

pub lines_are_lines : (bytes : List ℕ) → AllByRecursion IsLine (lines_of bytes)
lines_are_lines [] = tt
lines_are_lines (byte ∷ bytes) =
    elim (cases_Bool (eqb byte 10)) [
      | inl is ↦ rw (lines_here byte bytes is) (refl, lines_are_lines bytes)
      | inr isnt ↦ rw (lines_there byte bytes isnt) (first_is_line byte (lines_of bytes) isnt (lines_are_lines bytes))
    ]
