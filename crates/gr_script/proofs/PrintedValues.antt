-- The piece of a line that a value is, is the whole text that the value prints.
use Rattle.std.proofs.Common.{◌≡◌, ℕ, ◌+◌, ◌/◌, ◌%◌, ◌<◌, ◌≤◌, arith, pos, negsuc, suc, List, [], ◌∷◌, ◌++◌, length, Bool, true}
use Rattle.std.proofs.Common.{false}
use Rattle.std.proofs.Common.{cond, eqb, ltb, nat_lt, Some, None, decimal, refl, sym, ap, ◌∙◌, subst, append_assoc}
use Rattle.std.proofs.Common.{length-append}
use Rattle.std.proofs.lemmas.Bool.{and_parts, ne_eqb, lt-ltb, ltb-true, ltb-false}
use Rattle.std.specs.Char.{digit_char, is_ascii_digit}
use Rattle.std.specs.List.{AllByRecursion, list_all, prefix_len}
use Rattle.std.specs.Option.{option_map_or}
use Rattle.std.specs.Prelude.{codes, flat_map}
use Rattle.gr_value.specs.declared.scalar.Scalar.{Scalar}
use Rattle.gr_value.specs.declared.scalar.Scalar.TheVariants.{Null, Bool as Truth, Int, Text}
use Rattle.gr_value.specs.declared.value.Field.{Field}
use Rattle.gr_value.specs.ValueText.{escaped, quoted, scalar_text, field_text, value_text}
use Rattle.gr_value.specs.Values.{IsScalar, IsField, IsValue}
use Rattle.gr_script.specs.declared.piece.Place.{Place}
use Rattle.gr_script.specs.declared.piece.Place.TheVariants.{Outside, Quoted, Escaped}
use Rattle.gr_script.specs.Pieces.{nesting_of, behind, depths, closing, piece_len}
use Rattle.gr_script.proofs.Braces.{is_open, depths_length}
use Rattle.gr_script.proofs.PrintedNumbers.{decimal_spells}

-- From the one place the bytes lead to the other, and one brace is open all the way.
abbrev Leads : Place → List ℕ → Place → Type 0
Leads from [] to = from ≡ to
Leads from (byte ∷ bytes) to = (next : Place) × (behind (nesting_of 1 from) byte ≡ nesting_of 1 next) × Leads next bytes to

join : (from mid to : Place) (xs ys : List ℕ) → Leads from xs mid → Leads mid ys to → Leads from (xs ++ ys) to
join from mid to [] ys one two = subst (λ place. Leads place ys to) (sym one) two
join from mid to (x ∷ xs) ys (next, step, one) two = (next, step, join next mid to xs ys one two)

-- ---- what leads where

if_leads : (from to : Place) (test : Bool) (xs ys : List ℕ) → (test ≡ true → Leads from xs to) → (test ≡ false → Leads from ys to)
    → Leads from (cond test xs ys) to
if_leads from to true xs ys f g = f refl
if_leads from to false xs ys f g = g refl

quoted_byte : (x : ℕ) → eqb x 34 ≡ false → eqb x 92 ≡ false → behind (nesting_of 1 Quoted) x ≡ nesting_of 1 Quoted
quoted_byte x q b = rw (q, b) refl

digit_byte : (x : ℕ) → x < 16 → behind (nesting_of 1 Quoted) (digit_char x) ≡ nesting_of 1 Quoted
digit_byte x few = go (nat_lt x 10) refl
  where
    go : (b : Bool) → nat_lt x 10 ≡ b → behind (nesting_of 1 Quoted) (cond b (48 + x) (87 + x)) ≡ nesting_of 1 Quoted
    go true is = quoted_byte (48 + x) (ne_eqb (48 + x) 34 (λ e. omega arith)) (ne_eqb (48 + x) 92 (λ e. omega (arith, few)))
    go false isnt = quoted_byte (87 + x) (ne_eqb (87 + x) 34 (λ e. omega arith))
        (ne_eqb (87 + x) 92 (λ e. omega (arith, ltb-false x 10 isnt)))

hex : (x : ℕ) → x < 32 → Leads Quoted (digit_char (x / 16) ∷ digit_char (x % 16) ∷ []) Quoted
hex x low = (Quoted, digit_byte (x / 16) (omega (arith, low)), (Quoted, digit_byte (x % 16) (omega arith), refl))

escaped_leads : (x : ℕ) → Leads Quoted (escaped x) Quoted
unfolding escaped
escaped_leads x =
    if_leads Quoted Quoted (eqb x 34) _ _ (λ _. (Escaped, refl, (Quoted, refl, refl)))
    (λ q. if_leads Quoted Quoted (eqb x 92) _ _ (λ _. (Escaped, refl, (Quoted, refl, refl)))
    (λ b. if_leads Quoted Quoted (eqb x 8) _ _ (λ _. (Escaped, refl, (Quoted, refl, refl)))
    (λ _. if_leads Quoted Quoted (eqb x 9) _ _ (λ _. (Escaped, refl, (Quoted, refl, refl)))
    (λ _. if_leads Quoted Quoted (eqb x 10) _ _ (λ _. (Escaped, refl, (Quoted, refl, refl)))
    (λ _. if_leads Quoted Quoted (eqb x 12) _ _ (λ _. (Escaped, refl, (Quoted, refl, refl)))
    (λ _. if_leads Quoted Quoted (eqb x 13) _ _ (λ _. (Escaped, refl, (Quoted, refl, refl)))
    (λ _. if_leads Quoted Quoted (nat_lt x 32) _ (x ∷ [])
    (λ low. (Escaped, refl, (Quoted, refl, (Quoted, refl, (Quoted, refl, hex x (ltb-true x 32 low))))))
    (λ _. (Quoted, quoted_byte x q b, refl)))))))))

all_escaped : (text : List ℕ) → Leads Quoted (flat_map escaped text) Quoted
all_escaped [] = refl
all_escaped (x ∷ xs) = join Quoted Quoted Quoted (escaped x) (flat_map escaped xs) (escaped_leads x) (all_escaped xs)

quoted_leads : (text : List ℕ) → Leads Outside (quoted text) Outside
quoted_leads text = (Quoted, refl, join Quoted Quoted Outside (flat_map escaped text) (34 ∷ []) (all_escaped text) (Outside, refl, refl))

digit_outside : (x : ℕ) → is_ascii_digit x ≡ true → behind (nesting_of 1 Outside) x ≡ nesting_of 1 Outside
digit_outside x is =
    let low : x < 58 = grind (arith, is) in
    let high : 48 ≤ x = grind (arith, is) in
    rw (ne_eqb x 123 (λ e. omega (arith, low)), ne_eqb x 125 (λ e. omega (arith, low)), ne_eqb x 34 (λ e. omega (arith, high))) refl

digits_lead : (digits : List ℕ) → list_all is_ascii_digit digits ≡ true → Leads Outside digits Outside
digits_lead [] all = refl
digits_lead (x ∷ xs) all =
    let parts = and_parts (is_ascii_digit x) (list_all is_ascii_digit xs) all in
    (Outside, digit_outside x parts.0, digits_lead xs parts.1)

scalar_leads : (scalar : Scalar) → IsScalar scalar → Leads Outside (scalar_text scalar) Outside
scalar_leads Null ok = (Outside, refl, (Outside, refl, (Outside, refl, (Outside, refl, refl))))
scalar_leads (Truth true) ok = (Outside, refl, (Outside, refl, (Outside, refl, (Outside, refl, refl))))
scalar_leads (Truth false) ok = (Outside, refl, (Outside, refl, (Outside, refl, (Outside, refl, (Outside, refl, refl)))))
scalar_leads (Int (pos n)) ok = digits_lead (decimal n) (decimal_spells n (omega (arith, ok.sfits))).each
scalar_leads (Int (negsuc n)) ok = (Outside, refl, digits_lead (decimal (suc n)) (decimal_spells (suc n) (omega (arith, ok.sfits))).each)
scalar_leads (Text text) ok = quoted_leads text

field_leads : (field : Field) → IsField field → Leads Outside (field_text field) Outside
field_leads field ok =
    join Outside Outside Outside (quoted field.name) _ (quoted_leads field.name) (Outside, refl, scalar_leads field.scalar ok.1)

rest_leads : (fields : List Field) → AllByRecursion IsField fields
    → Leads Outside (flat_map (λ field. codes "," ++ field_text field) fields) Outside
rest_leads [] all = refl
rest_leads (field ∷ fields) all =
    join Outside Outside Outside (codes "," ++ field_text field) _ (Outside, refl, field_leads field all.0) (rest_leads fields all.1)

-- what stands between the braces
abbrev pub inner : List Field → List ℕ
inner [] = []
inner (field ∷ fields) = field_text field ++ flat_map (λ next. codes "," ++ field_text next) fields

inner_leads : (fields : List Field) → AllByRecursion IsField fields → Leads Outside (inner fields) Outside
inner_leads [] all = refl
inner_leads (field ∷ fields) all = join Outside Outside Outside (field_text field) _ (field_leads field all.0) (rest_leads fields all.1)

pub braced : (fields : List Field) → value_text fields ≡ 123 ∷ (inner fields ++ 125 ∷ [])
unfolding value_text
braced [] = refl
braced (field ∷ fields) = refl

-- ---- where the first brace is closed

open_on : (from to : Place) (text rest : List ℕ) → Leads from text to
    → prefix_len is_open (depths (nesting_of 1 from) (text ++ rest)) ≡ length text + prefix_len is_open (depths (nesting_of 1 to) rest)
open_on from to [] rest leads = ap (λ place. prefix_len is_open (depths (nesting_of 1 place) rest)) leads ∙ omega arith
open_on from to (byte ∷ text) rest (next, step, leads) =
    ap (λ after. prefix_len is_open (after.depth ∷ depths after (text ++ rest))) step
    ∙ ap (λ n. 1 + n) (open_on next to text rest leads) ∙ omega arith

closed_at : (text rest : List ℕ) → Leads Outside text Outside
    → closing (nesting_of 0 Outside) (123 ∷ (text ++ 125 ∷ rest)) ≡ Some (1 + length text)
closed_at text rest leads =
    let all = depths (nesting_of 1 Outside) (text ++ 125 ∷ rest) in
    let opened : prefix_len is_open all ≡ length text = open_on Outside Outside text (125 ∷ rest) leads ∙ omega arith in
    let some : length all ≡ length text + 1 + length rest =
    depths_length (nesting_of 1 Outside) (text ++ 125 ∷ rest) ∙ omega (arith, length-append text (125 ∷ rest)) in
    let within : ltb (1 + prefix_len is_open all) (length (1 ∷ all)) ≡ true = lt-ltb _ _ (omega (arith, opened, some)) in
    ap (λ b. cond b (Some (1 + prefix_len is_open all)) None) within ∙ ap (λ n. Some (1 + n)) opened

pub value_piece : (fields : List Field) (rest : List ℕ) → IsValue fields
    → piece_len (value_text fields ++ rest) ≡ length (value_text fields)
value_piece fields rest is =
    let whole : value_text fields ++ rest ≡ 123 ∷ (inner fields ++ 125 ∷ rest) =
    ap (λ text. text ++ rest) (braced fields) ∙ ap (λ text. 123 ∷ text) (append_assoc (inner fields) (125 ∷ []) rest) in
    ap piece_len whole
    ∙ ap (λ place. option_map_or (λ at. at + 1) place (length (123 ∷ (inner fields ++ 125 ∷ rest))))
    (closed_at (inner fields) rest (inner_leads fields is.readable))
    ∙ omega (arith, length-append (inner fields) (125 ∷ [])) ∙ ap (length {A = ℕ}) (sym (braced fields))
