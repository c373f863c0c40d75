-- What is printed for what was read is no longer than what was read.
use Rattle.std.proofs.Common.{◌≡◌, ◌∙◌, ℕ, ◌+◌, ◌^◌, ◌≤◌, Bool, true, false, cond, ◌&&◌, nat_lt, List, [], ◌∷◌, ◌++◌, length, Option, Some}
use Rattle.std.proofs.Common.{None, option_map, option_and_then, Result, Ok, Err, MatchOption, IfOk, Ordering, Less, Equal, Greater, pos}
use Rattle.std.proofs.Common.{decimal, refl, sym, ap, subst, arith, append-nil, length-append}
use Rattle.std.specs.Prelude.{⊤, flat_map, codes}
use Rattle.std.specs.Option.{ok_or}
use Rattle.std.specs.Ordering.{match_ordering}
use Rattle.json.specs.Json as json
use Rattle.json.specs.Lex.{tokens}
use Rattle.json.specs.Print.{quoted, token_text, begins, ends, print_from}
use Rattle.json.specs.Token.{Token, begin_object, end_object, begin_array, key, string as a_string, number as a_number}
use Rattle.json.specs.Tree.{json_tokens, items_tokens, members_tokens}
use Rattle.json.proofs.Unique.Spelling.{value-json_tokens_back}
use Rattle.serde_json.specs.Data.{Num, unsigned, negative, float, Data, null, boolean, number, string, array, object, Members, no_members}
use Rattle.serde_json.specs.Data.{member, put}
use Rattle.serde_json.specs.Events.{members_len}
use Rattle.serde_json.specs.Read.{number_of, of_json, of_items, of_members, max_depth, read}
use Rattle.serde_json.specs.Written.{number_text}
use Rattle.gr_value.specs.declared.fault.ValueFault.{ValueFault}
use Rattle.gr_value.specs.declared.fault.ValueFault.TheVariants.{NotWhole}
use Rattle.gr_value.specs.declared.scalar.Scalar.{Scalar}
use Rattle.gr_value.specs.declared.scalar.Scalar.TheVariants.{Int}
use Rattle.gr_value.specs.declared.value.Field.{Field}
use Rattle.gr_value.specs.ValueReading.{scalar_at, with_field, fields_from, value_of}
use Rattle.gr_value.specs.ValueText as value
use Rattle.gr_value.specs.ValueText.{scalar_text, field_text, value_text}
use Rattle.gr_value.proofs.Punctuating.{AreGood, printed_len, printed_more, tokens_len}
use Rattle.gr_value.proofs.NumberLengths.{number_fits}
use Rattle.gr_value.proofs.Texts.{quoted_same}

-- ---- the tokens of JSON

AreGood-append : (ts us : List Token) → AreGood ts → AreGood us → AreGood (ts ++ us)
AreGood-append [] us h k = k
AreGood-append (t ∷ ts) us h k = (h.0, AreGood-append ts us h.1 k)

mutual
  json_good : (j : json.Json) → AreGood (json_tokens j)
  json_good json.null = (refl, tt)
  json_good (json.boolean b) = (refl, tt)
  json_good (json.number text) = (refl, tt)
  json_good (json.string text) = (refl, tt)
  json_good (json.array js) = (refl, items_good js)
  json_good (json.object ms) = (refl, members_good ms)

  items_good : (js : json.Items) → AreGood (items_tokens js)
  items_good json.no_items = (refl, tt)
  items_good (json.item j js) = AreGood-append _ _ (json_good j) (items_good js)

  members_good : (ms : json.Members) → AreGood (members_tokens ms)
  members_good json.no_members = (refl, tt)
  members_good (json.member name j ms) = (refl, AreGood-append _ _ (json_good j) (members_good ms))

-- ---- how long the text of JSON is at least, without what nests

abbrev json_len : json.Json → ℕ
json_len json.null = 4
json_len (json.boolean b) = length (token_text (Token.boolean b))
json_len (json.number text) = length text
json_len (json.string text) = length (quoted text)
json_len (json.array js) = 0
json_len (json.object ms) = 0

-- the members, each with its name, its colon and a comma
abbrev jsons_len : json.Members → ℕ
jsons_len json.no_members = 0
jsons_len (json.member name j ms) = 2 + length (quoted name) + json_len j + jsons_len ms

separator-le : (b : Bool) → length {A = ℕ} (cond b (44 ∷ []) []) ≤ 1
separator-le true = omega arith
separator-le false = omega arith

-- what stands before a value takes at most its comma
later : (c : Bool) (us : List Token) → printed_len true us ≤ 1 + printed_len c us
unfolding print_from
later c [] = omega arith
later c (u ∷ us) = omega (arith, printed_more true u us, printed_more c u us, separator-le (true && begins u))

skip : (ts us : List Token) (c : Bool) → printed_len true us ≤ 1 + printed_len c (ts ++ us)
skip [] us c = later c us
skip (t ∷ ts) us c = omega (arith, printed_more c t (ts ++ us), skip ts us (ends t))

value_front : (j : json.Json) (us : List Token) → json_len j + printed_len true us ≤ printed_len false (json_tokens j ++ us)
value_front json.null us = omega (arith, printed_more false Token.null us)
value_front (json.boolean b) us = omega (arith, printed_more false (Token.boolean b) us)
value_front (json.number text) us = omega (arith, printed_more false (a_number text) us)
value_front (json.string text) us = omega (arith, printed_more false (a_string text) us)
value_front (json.array js) us = omega (arith, printed_more false begin_array (items_tokens js ++ us), skip (items_tokens js) us false)
value_front (json.object ms) us =
    omega (arith, printed_more false begin_object (members_tokens ms ++ us), skip (members_tokens ms) us false)

members_front : (ms : json.Members) → 1 + jsons_len ms ≤ printed_len true (members_tokens ms)
members_front json.no_members = omega (arith, printed_more true end_object [])
members_front (json.member name j ms) =
    omega (
      arith,
      printed_more true (key name) (json_tokens j ++ members_tokens ms),
      length-append (quoted name) (58 ∷ []),
      value_front j (members_tokens ms),
      members_front ms,
    )

record ObjectLen (ms : json.Members) (n : ℕ) : Type 0 where
  braces : 2 ≤ n
  all : 1 + jsons_len ms ≤ n

object_front : (ms : json.Members) → ObjectLen ms (printed_len false (json_tokens (json.object ms)))
object_front json.no_members =
    let e = printed_more false begin_object (end_object ∷ []) in
    let f = printed_more false end_object [] in
    record { braces = omega (arith, e, f); all = omega (arith, e, f) }
object_front (json.member name j ms) =
    let whole = members_tokens (json.member name j ms) in
    let n : 1 + jsons_len (json.member name j ms) ≤ printed_len false (json_tokens (json.object (json.member name j ms))) =
    omega (arith, printed_more false begin_object whole, members_front (json.member name j ms), later false whole) in
    record { braces = omega (arith, n); all = n }

-- ---- what the members are as data

abbrev data_len : Data → ℕ
data_len null = 4
data_len (boolean b) = length (token_text (Token.boolean b))
data_len (number n) = length (number_text n)
data_len (string text) = length (quoted text)
data_len (array ds) = 0
data_len (object ms) = 0

abbrev datas_len : Members → ℕ
datas_len no_members = 0
datas_len (member name d ms) = 2 + length (quoted name) + data_len d + datas_len ms

abbrev MapsTo : {A B : Type 0} → Option A → (A → B) → (B → Type 0) → Type 0
MapsTo found f P = MatchOption (option_map f found) ⊤ P

mapped : {A B : Type 0} (found : Option A) (f : A → B) (P : A → Type 0) (Q : B → Type 0) → ((a : A) → P a → Q (f a))
    → MatchOption found ⊤ P → MatchOption (option_map f found) ⊤ Q
mapped None f P Q g h = tt
mapped (Some a) f P Q g h = g a h

always : {A : Type 0} (found : Option A) → MatchOption found ⊤ (λ _. ⊤)
always None = tt
always (Some a) = tt

data_shorter : (j : json.Json) → MatchOption (of_json j) ⊤ (λ d. data_len d ≤ json_len j)
data_shorter json.null = omega arith
data_shorter (json.boolean b) = omega arith
data_shorter (json.number text) = mapped (number_of text) number _ _ (λ n h. h) (number_fits text)
data_shorter (json.string text) = omega arith
data_shorter (json.array js) = mapped (of_items js) array (λ _. ⊤) (λ d. data_len d ≤ 0) (λ ds h. omega arith) (always (of_items js))
data_shorter (json.object ms) =
    mapped (of_members ms no_members) object (λ _. ⊤) (λ d. data_len d ≤ 0) (λ ds h. omega arith) (always (of_members ms no_members))

if_ordered : (o : Ordering) (a b c : Members) (n : ℕ) → datas_len a ≤ n → datas_len b ≤ n → datas_len c ≤ n
    → datas_len (match_ordering o a b c) ≤ n
if_ordered Less a b c n p q r = p
if_ordered Equal a b c n p q r = q
if_ordered Greater a b c n p q r = r

put_len : (name : List ℕ) (d : Data) (ms : Members) → datas_len (put name d ms) ≤ 2 + length (quoted name) + data_len d + datas_len ms
put_len name d no_members = omega arith
put_len name d (member other e ms) =
    if_ordered _ (member name d (member other e ms)) (member other d ms) (member other e (put name d ms)) _ (omega arith) (omega arith)
    (omega (arith, put_len name d ms))

members_then : (n : ℕ) (found : Option Data) (f : Data → Option Members) (P : Data → Type 0) → MatchOption found ⊤ P
    → ((d : Data) → P d → MatchOption (f d) ⊤ (λ out. datas_len out ≤ n))
    → MatchOption (option_and_then f found) ⊤ (λ out. datas_len out ≤ n)
members_then n None f P h g = tt
members_then n (Some d) f P h g = g d h

members_weaker : (m n : ℕ) (found : Option Members) → m ≤ n → MatchOption found ⊤ (λ out. datas_len out ≤ m)
    → MatchOption found ⊤ (λ out. datas_len out ≤ n)
members_weaker m n None le h = tt
members_weaker m n (Some out) le h = omega arith

members_shorter : (ms : json.Members) (before : Members)
    → MatchOption (of_members ms before) ⊤ (λ out. datas_len out ≤ datas_len before + jsons_len ms)
members_shorter json.no_members before = omega arith
members_shorter (json.member name j ms) before =
    members_then _ (of_json j) (λ d. of_members ms (put name d before)) _ (data_shorter j)
    (λ d h. members_weaker _ _ (of_members ms (put name d before)) (omega (arith, put_len name d before, h))
    (members_shorter ms (put name d before)))

-- ---- a text that is an object

record IsObjectOf (bytes : List ℕ) (found : Members) : Type 0 where
  braces : 2 ≤ length bytes
  all : 1 + datas_len found ≤ length bytes

not_object : {A : Type 0} (read_so : Option A) (f : A → Data) (found : Members) → ((a : A) → Some (f a) ≡ Some (object found) → ⊥)
    → option_map f read_so ≡ Some (object found) → ⊥
not_object None f found never e = cc
not_object (Some a) f found never e = never a e

the_members : (read_so : Option Members) (found : Members) → option_map object read_so ≡ Some (object found) → read_so ≡ Some found
the_members None found e = absurd cc
the_members (Some out) found e = cc

from_object : (bytes : List ℕ) (found : Members) (j : json.Json) → tokens bytes ≡ json_tokens j → of_json j ≡ Some (object found)
    → IsObjectOf bytes found
from_object bytes found json.null e is = absurd cc
from_object bytes found (json.boolean b) e is = absurd cc
from_object bytes found (json.number text) e is = absurd (not_object (number_of text) number found (λ n never. cc) is)
from_object bytes found (json.string text) e is = absurd cc
from_object bytes found (json.array js) e is = absurd (not_object (of_items js) array found (λ ds never. cc) is)
from_object bytes found (json.object ms) e is =
    let front = object_front ms in
    let text : printed_len false (json_tokens (json.object ms)) ≤ length bytes =
    subst (λ ts. printed_len false ts ≤ length bytes) e (tokens_len bytes (subst AreGood (sym e) (json_good (json.object ms)))) in
    let len : datas_len found ≤ 0 + jsons_len ms =
    subst (λ read_so. MatchOption read_so ⊤ (λ out. datas_len out ≤ 0 + jsons_len ms)) (the_members (of_members ms no_members) found is)
    (members_shorter ms no_members) in
    record { braces = omega (arith, text, front.braces); all = omega (arith, text, front.all, len) }

object_read : (bytes : List ℕ) (found : Members) → read bytes ≡ Some (object found) → IsObjectOf bytes found
object_read bytes found h = go (json.value max_depth (tokens bytes)) refl h
  where
    go : (parsed : Option (json.Json × List Token)) → json.value max_depth (tokens bytes) ≡ parsed
        → option_and_then of_json (option_and_then (λ p. json.if_last p.0 p.1) parsed) ≡ Some (object found) → IsObjectOf bytes found
    go None e is = absurd cc
    go (Some (j, [])) e is = from_object bytes found j (value-json_tokens_back max_depth (tokens bytes) [] j e
        ∙ append-nil (json_tokens j)) is
    go (Some (j, t ∷ rest)) e is = absurd cc

-- ---- its fields

members_len-le : (found : Members) → members_len found ≤ datas_len found
members_len-le no_members = omega arith
members_len-le (member name d ms) = omega (arith, members_len-le ms)

pub few_members : (bytes : List ℕ) (found : Members) → read bytes ≡ Some (object found) → members_len found ≤ length bytes
few_members bytes found h = omega (arith, members_len-le found, (object_read bytes found h).all)

whole_len : (n : Num) (place : ℕ) → IfOk (scalar_at place (number n)) (λ scalar. length (scalar_text scalar) ≤ length (number_text n))
whole_len (unsigned n) place = go (nat_lt n (2 ^ 63))
  where
    go : (b : Bool) → IfOk (ok_or (option_map Int (cond b (Some (pos n)) None)) (NotWhole place))
        (λ scalar. length (scalar_text scalar) ≤ length (decimal n))
    go true = omega arith
    go false = tt
whole_len (negative z) place = omega arith
whole_len (float x) place = tt

scalar_len : (place : ℕ) (d : Data) → IfOk (scalar_at place d) (λ scalar. length (scalar_text scalar) ≤ data_len d)
scalar_len place null = omega arith
scalar_len place (boolean true) = omega arith
scalar_len place (boolean false) = omega arith
scalar_len place (number n) = whole_len n place
scalar_len place (string text) = omega (arith, ap length (quoted_same text))
scalar_len place (array ds) = tt
scalar_len place (object ms) = tt

abbrev fields_len : List Field → ℕ
fields_len [] = 0
fields_len (field ∷ fields) = 1 + length (field_text field) + fields_len fields

with_field_len : (name : List ℕ) (scalar : Result Scalar ValueFault) (rest : Result (List Field) ValueFault) (m n : ℕ)
    → IfOk scalar (λ s. length (scalar_text s) ≤ m) → IfOk rest (λ fields. fields_len fields ≤ n)
    → IfOk (with_field name scalar rest) (λ fields. fields_len fields ≤ 2 + length (quoted name) + m + n)
with_field_len name (Err fault) rest m n h k = tt
with_field_len name (Ok scalar) (Err fault) m n h k = tt
with_field_len name (Ok scalar) (Ok fields) m n h k =
    omega (arith, h, k, length-append (value.quoted name) (58 ∷ scalar_text scalar), ap length (quoted_same name))

fields_from_len : (place : ℕ) (found : Members) → IfOk (fields_from place found) (λ fields. fields_len fields ≤ datas_len found)
fields_from_len place no_members = omega arith
fields_from_len place (member name d ms) =
    with_field_len name (scalar_at place d) (fields_from (place + 1) ms) _ _ (scalar_len place d) (fields_from_len (place + 1) ms)

rest_len : (fields : List Field) → length (flat_map (λ field. codes "," ++ field_text field) fields) ≡ fields_len fields
rest_len [] = refl
rest_len (field ∷ fields) = omega (
  arith,
  length-append (44 ∷ field_text field) (flat_map (λ other. codes "," ++ field_text other) fields),
  rest_len fields,
)

value_text_len : (n : ℕ) (fields : List Field) → 2 ≤ n → 1 + fields_len fields ≤ n → length (value_text fields) ≤ n
unfolding value_text
value_text_len n [] braces all = omega arith
value_text_len n (field ∷ fields) braces all =
    let rest = flat_map (λ other. codes "," ++ field_text other) fields in
    omega (arith, length-append (field_text field ++ rest) (125 ∷ []), length-append (field_text field) rest, rest_len fields)

pub text_shorter : (bytes : List ℕ) (found : Data) (fields : List Field) → read bytes ≡ Some found → value_of (Some found) ≡ Ok fields
    → length (value_text fields) ≤ length bytes
text_shorter bytes null fields h is = absurd cc
text_shorter bytes (boolean b) fields h is = absurd cc
text_shorter bytes (number n) fields h is = absurd cc
text_shorter bytes (string text) fields h is = absurd cc
text_shorter bytes (array ds) fields h is = absurd cc
text_shorter bytes (object found) fields h is =
    let whole = object_read bytes found h in
    let len : fields_len fields ≤ datas_len found =
    subst (λ read_so. IfOk read_so (λ all. fields_len all ≤ datas_len found)) is (fields_from_len 0 found) in
    value_text_len (length bytes) fields whole.braces (omega (arith, len, whole.all))
