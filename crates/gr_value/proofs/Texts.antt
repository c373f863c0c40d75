-- The text of a value is what `serde_json` prints for the same members.
use Rattle.std.proofs.Common.{◌≡◌, ◌∙◌, ap, ℕ, ◌⊎◌, inl, inr, pos, negsuc, List, [], ◌∷◌, ◌++◌, true, false, refl, append_assoc}
use Rattle.std.proofs.lemmas.Bool.{cases_eq, ne_eqb}
use Rattle.std.specs.Prelude.{flat_map, codes}
use Rattle.json.specs.Print.{escape_byte, quoted as json_quoted}
use Rattle.serde_json.specs.Data.{Data, null, boolean, number, unsigned, negative, string, object, Members, no_members, member}
use Rattle.serde_json.specs.Written.{compact_text, members_text}
use Rattle.gr_value.specs.declared.scalar.Scalar.{Scalar}
use Rattle.gr_value.specs.declared.scalar.Scalar.TheVariants.{Null, Bool as Truth, Int, Text}
use Rattle.gr_value.specs.declared.value.Field.{Field}
use Rattle.gr_value.specs.ValueText.{escaped, quoted, scalar_text, field_text, value_text}

-- a scalar as JSON
abbrev pub data_of : Scalar → Data
data_of Null = null
data_of (Truth truth) = boolean truth
data_of (Int (pos n)) = number (unsigned n)
data_of (Int (negsuc n)) = number (negative (negsuc n))
data_of (Text text) = string text

abbrev pub members_of : List Field → Members
members_of [] = no_members
members_of (field ∷ fields) = member field.name (data_of field.scalar) (members_of fields)

escaped_same : (x : ℕ) → escaped x ≡ escape_byte x
unfolding escaped escape_byte
escaped_same x = go (cases_eq x 34) (cases_eq x 92) (cases_eq x 8) (cases_eq x 9) (cases_eq x 10) (cases_eq x 12) (cases_eq x 13)
  where
    go : (x ≡ 34) ⊎ (x ≡ 34 → ⊥) → (x ≡ 92) ⊎ (x ≡ 92 → ⊥) → (x ≡ 8) ⊎ (x ≡ 8 → ⊥) → (x ≡ 9) ⊎ (x ≡ 9 → ⊥) → (x ≡ 10) ⊎ (x ≡ 10 → ⊥)
        → (x ≡ 12) ⊎ (x ≡ 12 → ⊥) → (x ≡ 13) ⊎ (x ≡ 13 → ⊥)
        → escaped x ≡ escape_byte x
    go (inl e) b c d f g h = rw e refl
    go (inr a) (inl e) c d f g h = rw e refl
    go (inr a) (inr b) (inl e) d f g h = rw e refl
    go (inr a) (inr b) (inr c) (inl e) f g h = rw e refl
    go (inr a) (inr b) (inr c) (inr d) (inl e) g h = rw e refl
    go (inr a) (inr b) (inr c) (inr d) (inr f) (inl e) h = rw e refl
    go (inr a) (inr b) (inr c) (inr d) (inr f) (inr g) (inl e) = rw e refl
    go (inr a) (inr b) (inr c) (inr d) (inr f) (inr g) (inr h) =
        rw (ne_eqb x 34 a, ne_eqb x 92 b, ne_eqb x 8 c, ne_eqb x 9 d, ne_eqb x 10 f, ne_eqb x 12 g, ne_eqb x 13 h) refl

pub quoted_same : (text : List ℕ) → quoted text ≡ json_quoted text
quoted_same text = λ i. 34 ∷ (flat_map (λ x. escaped_same x i) text ++ 34 ∷ [])

pub scalar_text_same : (scalar : Scalar) → scalar_text scalar ≡ compact_text (data_of scalar)
scalar_text_same Null = refl
scalar_text_same (Truth true) = refl
scalar_text_same (Truth false) = refl
scalar_text_same (Int (pos n)) = refl
scalar_text_same (Int (negsuc n)) = refl
scalar_text_same (Text text) = quoted_same text

field_before : (field : Field) (rest : List ℕ) → field_text field ++ rest ≡ json_quoted field.name
    ++ 58 ∷ (compact_text (data_of field.scalar) ++ rest)
field_before field rest =
    append_assoc (quoted field.name) (58 ∷ scalar_text field.scalar) rest
    ∙ (λ i. quoted_same field.name i ++ 58 ∷ (scalar_text_same field.scalar i ++ rest))

rest_same : (fields : List Field) → flat_map (λ field. codes "," ++ field_text field) fields
    ++ 125 ∷ [] ≡ members_text true (members_of fields)
rest_same [] = refl
rest_same (field ∷ fields) =
    append_assoc (44 ∷ field_text field) (flat_map (λ other. codes "," ++ field_text other) fields) (125 ∷ [])
    ∙ ap (λ rest. 44 ∷ (field_text field ++ rest)) (rest_same fields)
    ∙ ap (λ rest. 44 ∷ rest) (field_before field (members_text true (members_of fields)))

pub value_text_same : (fields : List Field) → value_text fields ≡ compact_text (object (members_of fields))
unfolding value_text
value_text_same [] = refl
value_text_same (field ∷ fields) =
    ap (λ rest. 123 ∷ rest) (append_assoc (field_text field) (flat_map (λ other. codes "," ++ field_text other) fields) (125 ∷ []))
    ∙ ap (λ rest. 123 ∷ (field_text field ++ rest)) (rest_same fields)
    ∙ ap (λ rest. 123 ∷ rest) (field_before field (members_text true (members_of fields)))
