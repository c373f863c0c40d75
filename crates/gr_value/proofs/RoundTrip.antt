-- The text of a value reads as that value.
use Rattle.std.proofs.Common.{◌≡◌, ◌∙◌, ap, subst, ℕ, ◌+◌, ◌^◌, ◌<◌, ◌≤◌, arith, pos, negsuc, List, [], ◌∷◌, ◌++◌, length, map, true}
use Rattle.std.proofs.Common.{false, Some, Ok, option_map, option_and_then, Greater, Less, nat_cmp, refl, sym, append_assoc, append-nil}
use Rattle.std.proofs.Common.{lt-ltb, le-ltb, IsUtf8}
use Rattle.std.proofs.lemmas.Cmp.{nat_list_cmp_total}
use Rattle.std.proofs.lemmas.Fmt.{IsAscii-signed}
use Rattle.std.proofs.lemmas.Str.{IsUtf8-append, IsUtf8-from_ascii, IsUtf8-from_is_utf8, is_utf8-from_IsUtf8}
use Rattle.std.specs.Cmp.Lexicographic.{slice_cmp}
use Rattle.std.specs.List.{AllByRecursion, flat_map}
use Rattle.std.specs.List.Sorted.{IsStrictlySortedBy}
use Rattle.std.specs.Ordering.{ordering_reverse}
use Rattle.std.specs.Prelude.{codes}
use Rattle.std.specs.Str.{is_utf8}
use Rattle.json.specs.Json as json
use Rattle.json.specs.Lex.{tokens}
use Rattle.json.specs.Tree as tree
use Rattle.json.proofs.Printed.Decimals.{IsNumber-signed_decimal}
use Rattle.json.proofs.Printed.Tokens.{tokens-print}
use Rattle.json.proofs.Printed.Trees.{value-json_tokens, ArePrintable-json_tokens}
use Rattle.json.proofs.Printed.Utf8.{IsUtf8-quoted, IsUtf8-are_ascii}
use Rattle.serde_json.specs.Data.{object, member, put}
use Rattle.serde_json.specs.Read.{read, of_json, of_members, max_depth}
use Rattle.serde_json.specs.Written.{outline, members_outline}
use Rattle.serde_json.proofs.Numbers.{number_of-decimal, number_of-negative}
use Rattle.serde_json.proofs.Texts.{print-outline}
use Rattle.gr_value.specs.declared.scalar.Scalar.{Scalar}
use Rattle.gr_value.specs.declared.scalar.Scalar.TheVariants.{Null, Bool as Truth, Int, Text}
use Rattle.gr_value.specs.declared.value.Field.{Field}
use Rattle.gr_value.specs.ValueReading.{scalar_at, with_field, fields_from, read_value}
use Rattle.gr_value.specs.ValueText.{quoted, scalar_text, field_text, value_text}
use Rattle.gr_value.specs.Values.{IsScalar, IsField, HasAscendingNames, IsValue}
use Rattle.gr_value.proofs.Texts.{data_of, members_of, quoted_same, value_text_same}

-- ---- UTF-8

utf8_quoted : (text : List ℕ) → is_utf8 text ≡ true → IsUtf8 (quoted text)
utf8_quoted text h = subst IsUtf8 (sym (quoted_same text)) (IsUtf8-quoted text (IsUtf8-from_is_utf8 text h))

utf8_scalar : (scalar : Scalar) → IsScalar scalar → IsUtf8 (scalar_text scalar)
utf8_scalar Null h = IsUtf8-are_ascii _ refl
utf8_scalar (Truth true) h = IsUtf8-are_ascii _ refl
utf8_scalar (Truth false) h = IsUtf8-are_ascii _ refl
utf8_scalar (Int number) h = IsUtf8-from_ascii _ (IsAscii-signed number h.sfits)
utf8_scalar (Text text) h = utf8_quoted text h

utf8_field : (field : Field) → IsField field → IsUtf8 (field_text field)
utf8_field field h = IsUtf8-append _ _ (utf8_quoted field.name h.0)
    (IsUtf8-append (58 ∷ []) _ (IsUtf8-are_ascii _ refl) (utf8_scalar field.scalar h.1))

utf8_rest : (fields : List Field) → AllByRecursion IsField fields → IsUtf8 (flat_map (λ field. codes "," ++ field_text field) fields)
utf8_rest [] h = IsUtf8-are_ascii [] refl
utf8_rest (field ∷ fields) h = IsUtf8-append (44 ∷ field_text field) _
    (IsUtf8-append (44 ∷ []) _ (IsUtf8-are_ascii _ refl) (utf8_field field h.0)) (utf8_rest fields h.1)

pub utf8_text : (fields : List Field) → AllByRecursion IsField fields → IsUtf8 (value_text fields)
unfolding value_text
utf8_text [] h = IsUtf8-are_ascii _ refl
utf8_text (field ∷ fields) h =
    IsUtf8-append (123 ∷ []) _ (IsUtf8-are_ascii _ refl)
    (IsUtf8-append (field_text field
    ++ _) (125 ∷ []) (IsUtf8-append (field_text field) _ (utf8_field field h.0) (utf8_rest fields h.1)) (IsUtf8-are_ascii _ refl))

-- ---- the tokens read back

numbers_of : (fields : List Field) → AllByRecursion IsField fields → tree.MembersHaveNumbers (members_outline (members_of fields))
numbers_of [] h = tt
numbers_of (field ∷ fields) h = (one field.scalar h.0.1, numbers_of fields h.1)
  where
    one : (scalar : Scalar) → IsScalar scalar → tree.HasNumbers (outline (data_of scalar))
    one Null ok = tt
    one (Truth truth) ok = tt
    one (Int (pos n)) ok = IsNumber-signed_decimal (pos n) ok.sfits
    one (Int (negsuc n)) ok = IsNumber-signed_decimal (negsuc n) ok.sfits
    one (Text text) ok = tt

shallow : (scalar : Scalar) → tree.depth (outline (data_of scalar)) ≡ 0
shallow Null = refl
shallow (Truth truth) = refl
shallow (Int (pos n)) = refl
shallow (Int (negsuc n)) = refl
shallow (Text text) = refl

flat : (fields : List Field) → tree.members_depth (members_outline (members_of fields)) ≡ 0
flat [] = refl
flat (field ∷ fields) = omega (arith, shallow field.scalar, flat fields)

scalar_back : (scalar : Scalar) → IsScalar scalar → of_json (outline (data_of scalar)) ≡ Some (data_of scalar)
scalar_back Null ok = refl
scalar_back (Truth truth) ok = refl
scalar_back (Int (pos n)) ok = rw (number_of-decimal n (omega (arith, ok.sfits))) refl
scalar_back (Int (negsuc n)) ok = rw (number_of-negative n ok.sfits) refl
scalar_back (Text text) ok = refl

below_middle : (name : List ℕ) (done : List Field) (field : Field) (more : List Field)
    → AllByRecursion (λ other. slice_cmp nat_cmp name other ≡ Less) (map (λ other. other.name) (done ++ field ∷ more))
    → slice_cmp nat_cmp name field.name ≡ Less
below_middle name [] field more h = h.0
below_middle name (first ∷ done) field more h = below_middle name done field more h.1

-- a name above those before it goes last
put_last : (done : List Field) (field : Field) (more : List Field) → HasAscendingNames (done ++ field ∷ more)
    → put field.name (data_of field.scalar) (members_of done) ≡ members_of (done ++ field ∷ [])
unfolding IsStrictlySortedBy
put_last [] field more h = refl
put_last (first ∷ done) field more h =
    let above : slice_cmp nat_cmp field.name first.name ≡ Greater = nat_list_cmp_total.antisymm field.name first.name
    ∙ ap ordering_reverse (below_middle first.name done field more h.0) in
    rw above (ap (member first.name (data_of first.scalar)) (put_last done field more h.1))

members_back : (done fields : List Field) → HasAscendingNames (done ++ fields) → AllByRecursion IsField fields
    → of_members (members_outline (members_of fields)) (members_of done) ≡ Some (members_of (done ++ fields))
members_back done [] h ok = ap (λ all. Some (members_of all)) (sym (append-nil done))
members_back done (field ∷ fields) h ok =
    let all : (done ++ field ∷ []) ++ fields ≡ done ++ field ∷ fields = append_assoc done (field ∷ []) fields in
    ap (option_and_then (λ data_found. of_members (members_outline (members_of fields)) (put field.name data_found (members_of done))))
    (scalar_back field.scalar ok.0.1)
    ∙ ap (of_members (members_outline (members_of fields))) (put_last done field fields h)
    ∙ members_back (done ++ field ∷ []) fields (subst HasAscendingNames (sym all) h) ok.1
    ∙ ap (λ found. Some (members_of found)) all

json_back : (fields : List Field) → HasAscendingNames fields → AllByRecursion IsField fields
    → read (value_text fields) ≡ Some (object (members_of fields))
json_back fields h ok =
    let whole = object (members_of fields) in
    let ts = tree.json_tokens (outline whole) in
    let low : tree.depth (outline whole) ≤ max_depth = omega (arith, flat fields) in
    let text : tokens (value_text fields) ≡ ts ++ [] =
    ap tokens (value_text_same fields ∙ sym (print-outline whole))
    ∙ tokens-print ts (ArePrintable-json_tokens (outline whole) (numbers_of fields ok)) ∙ sym (append-nil ts) in
    ap (λ found. option_and_then of_json (option_and_then (λ p. json.if_last p.0 p.1) (json.value max_depth found))) text
    ∙ ap (λ found. option_and_then of_json (option_and_then (λ p. json.if_last p.0 p.1) found))
    (value-json_tokens (outline whole) max_depth [] low)
    ∙ ap (option_map object) (members_back [] fields h ok)

-- ---- the fields are those that were printed

scalar_read : (place : ℕ) (scalar : Scalar) → IsScalar scalar → scalar_at place (data_of scalar) ≡ Ok scalar
scalar_read place Null ok = refl
scalar_read place (Truth truth) ok = refl
scalar_read place (Int (pos n)) ok = let small : n < 2 ^ 63 = ok.sfits in rw (lt-ltb _ _ small) refl
scalar_read place (Int (negsuc n)) ok = refl
scalar_read place (Text text) ok = refl

fields_read : (place : ℕ) (fields : List Field) → AllByRecursion IsField fields → fields_from place (members_of fields) ≡ Ok fields
fields_read place [] ok = refl
fields_read place (field ∷ fields) ok =
    (λ i. with_field field.name (scalar_read place field.scalar ok.0.1 i) (fields_read (place + 1) fields ok.1 i))

pub value_read_back : (fields : List Field) → IsValue fields → read_value (value_text fields) ≡ Ok fields
unfolding read_value
value_read_back fields h =
    rw (
      le-ltb 1024 (length (value_text fields)) h.short,
      is_utf8-from_IsUtf8 _ (utf8_text fields h.readable),
      json_back fields h.ascending h.readable,
    ) (fields_read 0 fields h.readable)
