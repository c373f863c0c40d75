-- Scalars, fields and values that pass the test are equal, and equal ones pass it.
use Rattle.std.proofs.Common.{◌≡◌, ◌∙◌, ap, List, ℕ, refl}
use Rattle.std.specs.Bool.{Decides}
use Rattle.std.specs.Cmp.{IsEquivalence, decided, booleans_Decides, signed_Decides}
use Rattle.std.specs.Cmp.Lexicographic.{pointwise_decides}
use Rattle.std.proofs.lemmas.Slice.Eq.{bytes_eq-Decides}
use Rattle.std.proofs.lemmas.Bool.Decides.{Decides-and, Decides-like}
use Rattle.gr_value.specs.declared.scalar.Scalar.{Scalar}
use Rattle.gr_value.specs.declared.scalar.Scalar.TheVariants.{Null, Bool as Truth, Int, Text}
use Rattle.gr_value.specs.declared.value.Field.{Field}
use Rattle.gr_value.specs.Scalars.{scalar_eq}
use Rattle.gr_value.specs.Fields.{field_eq, value_eq}

pub scalar_eq-Decides : (one two : Scalar) → Decides (scalar_eq one two) (one ≡ two)
scalar_eq-Decides Null Null = (λ _. refl, λ _. refl)
scalar_eq-Decides (Truth a) (Truth b) = Decides-like _ (λ (e : a ≡ b). ap Truth e) (λ e. cc) (booleans_Decides a b)
scalar_eq-Decides (Int a) (Int b) = Decides-like _ (λ (e : a ≡ b). ap Int e) (λ e. cc) (signed_Decides a b)
scalar_eq-Decides (Text a) (Text b) = Decides-like _ (λ (e : a ≡ b). ap Text e) (λ e. cc) (bytes_eq-Decides a b)
scalar_eq-Decides _ _ = (λ e. cc, λ e. cc)

pub field_eq-Decides : (one two : Field) → Decides (field_eq one two) (one ≡ two)
field_eq-Decides one two =
    let made : List ℕ → Scalar → Field = λ name scalar. record { name = name; scalar = scalar } in
    Decides-like _ (λ (e : (one.name ≡ two.name) × (one.scalar ≡ two.scalar)). ap (λ name. made name one.scalar) e.0
    ∙ ap (made two.name) e.1)
    (λ (e : one ≡ two). (ap (λ field. field.name) e, ap (λ field. field.scalar) e))
    (Decides-and _ _ (bytes_eq-Decides one.name two.name) (scalar_eq-Decides one.scalar two.scalar))

pub value_eq_decides : (one two : List Field) → Decides (value_eq one two) (one ≡ two)
value_eq_decides one two = pointwise_decides field_eq-Decides one two

pub scalar_eq_equiv : IsEquivalence scalar_eq
scalar_eq_equiv = decided scalar_eq scalar_eq-Decides

pub field_eq_equiv : IsEquivalence field_eq
field_eq_equiv = decided field_eq field_eq-Decides
