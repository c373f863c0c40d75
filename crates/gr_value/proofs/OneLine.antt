-- The text of a value has no byte below a space.
use Rattle.std.proofs.Common.{◌≡◌, ℕ, ◌+◌, ◌/◌, ◌%◌, ◌^◌, ◌<◌, ◌≤◌, arith, pos, negsuc, suc, List, [], ◌∷◌, ◌++◌, Bool, true, false, cond}
use Rattle.std.proofs.Common.{◌==◌, nat_le, nat_lt, get_or, decimal, refl}
use Rattle.std.proofs.lemmas.Bool.{and_parts, leb-true, ltb-false}
use Rattle.std.proofs.lemmas.Fmt.{decimal_is_IsNumeral}
use Rattle.std.proofs.lemmas.List.Elements.{All-nil, All-cons, All-append, All-from_get_or}
use Rattle.std.proofs.lemmas.Str.Parse.{digit_at}
use Rattle.std.specs.Char.{digit_char}
use Rattle.std.specs.List.{All, AllByRecursion, list_all}
use Rattle.std.specs.Prelude.{codes, flat_map}
use Rattle.gr_value.specs.declared.scalar.Scalar.{Scalar}
use Rattle.gr_value.specs.declared.scalar.Scalar.TheVariants.{Null, Bool as Truth, Int, Text}
use Rattle.gr_value.specs.declared.value.Field.{Field}
use Rattle.gr_value.specs.ValueText.{escaped, quoted, scalar_text, field_text, value_text}
use Rattle.gr_value.specs.Values.{IsScalar, IsField, IsValue}

abbrev Visible : ℕ → Type 0
Visible byte = 32 ≤ byte

record AreVisible (bytes : List ℕ) : Type 0 where
  each : All Visible bytes

none : AreVisible []
none = record { each = All-nil Visible }

one_more : (x : ℕ) (xs : List ℕ) → 32 ≤ x → AreVisible xs → AreVisible (x ∷ xs)
one_more x xs h k = record { each = All-cons Visible x xs h k.each }

literal : (bytes : List ℕ) → list_all (nat_le 32) bytes ≡ true → AreVisible bytes
literal [] e = none
literal (x ∷ xs) e = let both = and_parts (nat_le 32 x) (list_all (nat_le 32) xs) e in
    one_more x xs (leb-true 32 x both.0) (literal xs both.1)

join : (xs ys : List ℕ) → AreVisible xs → AreVisible ys → AreVisible (xs ++ ys)
join xs ys f g = record { each = All-append Visible xs ys f.each g.each }

if_visible : (b : Bool) (xs ys : List ℕ) → AreVisible xs → (b ≡ false → AreVisible ys) → AreVisible (cond b xs ys)
if_visible true xs ys f g = f
if_visible false xs ys f g = g refl

digit_visible : (d : ℕ) → 32 ≤ digit_char d
digit_visible d = go (nat_lt d 10)
  where
    go : (b : Bool) → 32 ≤ cond b (48 + d) (87 + d)
    go true = omega arith
    go false = omega arith

escaped_visible : (x : ℕ) → AreVisible (escaped x)
unfolding escaped
escaped_visible x =
    if_visible (x == 34) _ _ (literal _ refl)
    (λ a. if_visible (x == 92) _ _ (literal _ refl)
    (λ b. if_visible (x == 8) _ _ (literal _ refl) (λ c. if_visible (x == 9) _ _ (literal _ refl)
    (λ d. if_visible (x == 10) _ _ (literal _ refl)
    (λ e. if_visible (x == 12) _ _ (literal _ refl)
    (λ f. if_visible (x == 13) _ _ (literal _ refl) (λ g. if_visible (nat_lt x 32) _ (x ∷ [])
    (join (92 ∷ 117 ∷ 48 ∷ 48 ∷ []) _ (literal _ refl)
    (one_more _ _ (digit_visible (x / 16)) (one_more _ _ (digit_visible (x % 16)) none)))
    (λ h. one_more x [] (ltb-false x 32 h) none))))))))

all_escaped : (text : List ℕ) → AreVisible (flat_map escaped text)
all_escaped [] = none
all_escaped (x ∷ xs) = join (escaped x) (flat_map escaped xs) (escaped_visible x) (all_escaped xs)

quoted_visible : (text : List ℕ) → AreVisible (quoted text)
quoted_visible text = join (34 ∷ []) _ (literal _ refl) (join (flat_map escaped text) (34 ∷ []) (all_escaped text) (literal _ refl))

decimal_visible : (n : ℕ) → n < 2 ^ 64 → AreVisible (decimal n)
decimal_visible n h = record {
  each =
      All-from_get_or Visible (decimal n) 0 (λ i within. let digit = digit_at (decimal n) i (decimal_is_IsNumeral n h).0.1 within in
      omega (arith, digit));
}

scalar_visible : (scalar : Scalar) → IsScalar scalar → AreVisible (scalar_text scalar)
scalar_visible Null ok = literal _ refl
scalar_visible (Truth true) ok = literal _ refl
scalar_visible (Truth false) ok = literal _ refl
scalar_visible (Int (pos n)) ok = decimal_visible n (omega (arith, ok.sfits))
scalar_visible (Int (negsuc n)) ok = one_more 45 _ (omega arith) (decimal_visible (suc n) (omega (arith, ok.sfits)))
scalar_visible (Text text) ok = quoted_visible text

field_visible : (field : Field) → IsField field → AreVisible (field_text field)
field_visible field ok = join (quoted field.name) _ (quoted_visible field.name)
    (join (58 ∷ []) _ (literal _ refl) (scalar_visible field.scalar ok.1))

rest_visible : (fields : List Field) → AllByRecursion IsField fields
    → AreVisible (flat_map (λ field. codes "," ++ field_text field) fields)
rest_visible [] ok = none
rest_visible (field ∷ fields) ok =
    join (44 ∷ field_text field) _ (join (44 ∷ []) _ (literal _ refl) (field_visible field ok.0)) (rest_visible fields ok.1)

whole_visible : (fields : List Field) → AllByRecursion IsField fields → AreVisible (value_text fields)
unfolding value_text
whole_visible [] ok = literal _ refl
whole_visible (field ∷ fields) ok =
    join (123 ∷ []) _ (literal _ refl)
    (join (field_text field ++ _) (125 ∷ []) (join (field_text field) _ (field_visible field ok.0) (rest_visible fields ok.1))
    (literal _ refl))

pub text_visible : (fields : List Field) → IsValue fields → All (λ byte. 32 ≤ byte) (value_text fields)
text_visible fields h = (whole_visible fields h.readable).each

pub text_begins : (fields : List Field) → get_or (value_text fields) 0 0 ≡ 123
unfolding value_text
text_begins fields = refl
