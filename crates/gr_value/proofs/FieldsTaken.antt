-- Fields that a text begins with.
use Rattle.std.proofs.Common.{◌≡◌, ◌∙◌, ap, ℕ, ◌+◌, ◌<◌, ◌≤◌, arith, List, [], ◌∷◌, ◌++◌, length, get_or, Ordering, Less, Equal, Greater}
use Rattle.std.proofs.Common.{false, take, drop, is_ge, nat_cmp, ◌-◌, ◌⊎◌, inl, inr, refl, sym, append_assoc, append-nil}
use Rattle.std.proofs.Common.{length-append}
use Rattle.std.proofs.Math.Seq.{drop-append_seam, take-append_seam}
use Rattle.std.proofs.lemmas.List.{get_or-map, take_all, take-append-drop, length-drop}
use Rattle.std.proofs.lemmas.Bool.{cases_lt, true≢false}
use Rattle.std.proofs.lemmas.Cmp.{nat_list_cmp_total}
use Rattle.std.proofs.lemmas.Grind.{flat_map-append}
use Rattle.std.proofs.lemmas.Map.Keys.{sorted_from_all_adjacent}
use Rattle.std.specs.List.Sorted.{IsStrictlySortedBy}
use Rattle.std.specs.Cmp.Lexicographic.{slice_cmp}
use Rattle.std.specs.List.{AllByRecursion, join_by}
use Rattle.std.specs.Prelude.{flat_map, codes}
use Rattle.gr_value.specs.declared.value.Field.{Field}
use Rattle.gr_value.specs.ValueText.{field_text, quoted, scalar_text, value_text}
use Rattle.gr_value.specs.Values.{IsField, HasAscendingNames}
use Rattle.gr_value.proofs.FieldsRead.{names, readable_push}

-- The text is that of the fields, with commas between them, and then the rest.
pub record HasTaken (text : List ℕ) (fields : List Field) (rest : List ℕ) : Type 0 where
  pub some : 0 < length fields
  pub taken : text ≡ join_by field_text (codes ",") fields ++ rest
  pub readable : AllByRecursion IsField fields

pub taken_first : (text : List ℕ) (field : Field) (rest : List ℕ) → text ≡ field_text field ++ rest → IsField field
    → HasTaken text (field ∷ []) rest
taken_first text field rest e ok =
    record { some = omega arith; taken = e ∙ ap (λ front. front ++ rest) (sym (append-nil (field_text field))); readable = (ok, tt) }

join_push : (fields : List Field) (field : Field) → 0 < length fields
    → join_by field_text (codes ",") (fields ++ field ∷ []) ≡ join_by field_text (codes ",") fields ++ 44 ∷ field_text field
join_push [] field some = absurd (omega arith)
join_push (first ∷ fields) field some =
    let f : Field → List ℕ = λ other. codes "," ++ field_text other in
    ap (λ rest. field_text first ++ rest) (flat_map-append f fields (field ∷ [])
    ∙ ap (λ last. flat_map f fields ++ last) (append-nil (44 ∷ field_text field)))
    ∙ sym (append_assoc (field_text first) (flat_map f fields) (44 ∷ field_text field))

pub taken_more : (text : List ℕ) (fields : List Field) (field : Field) (before after rest : List ℕ) → HasTaken text fields before
    → before ≡ 44 ∷ after → after ≡ field_text field ++ rest → IsField field
    → HasTaken text (fields ++ field ∷ []) rest
taken_more text fields field before after rest h comma e ok = record {
  some = omega (arith, length-append fields (field ∷ []));
  taken =
      h.taken ∙ ap (λ left. join_by field_text (codes ",") fields ++ left) (comma ∙ ap (λ left. 44 ∷ left) e)
      ∙ sym (append_assoc (join_by field_text (codes ",") fields) (44 ∷ field_text field) rest)
      ∙ ap (λ front. front ++ rest) (sym (join_push fields field h.some));
  readable = readable_push fields field h.readable ok;
}

pub taken_shorter : (field : Field) (before after rest : List ℕ) → before ≡ 44 ∷ after → after ≡ field_text field ++ rest
    → length rest < length before
taken_shorter field before after rest comma e = omega (arith, ap length comma, ap length e, length-append (field_text field) rest)

abbrev pub AreBelow : ℕ → List Field → Type 0
AreBelow n fields = (k : ℕ) → k + 1 < n → slice_cmp nat_cmp (get_or (names fields) k []) (get_or (names fields) (k + 1) []) ≡ Less

is_less : (o : Ordering) → false ≡ is_ge o → o ≡ Less
is_less Less e = refl
is_less Equal e = absurd (true≢false (sym e))
is_less Greater e = absurd (true≢false (sym e))

name_at : (fields : List Field) (k : ℕ) (d : Field) → k < length fields → get_or (names fields) k [] ≡ (get_or fields k d).name
name_at fields k d h = get_or-map (λ (field : Field). field.name) fields k d [] h

-- the next name is above the one before
pub below_next : (n : ℕ) (fields : List Field) (d e : Field) (before next : List ℕ) → 1 ≤ n → n < length fields → AreBelow n fields
    → before ≡ (get_or fields (n - 1) d).name → next ≡ (get_or fields n e).name
    → false ≡ is_ge (slice_cmp nat_cmp before next) → AreBelow (n + 1) fields
below_next n fields d e before next some within below is_before is_next test k less = go (cases_lt (k + 1) n)
  where
    go : (k + 1 < n) ⊎ (n ≤ k + 1) → slice_cmp nat_cmp (get_or (names fields) k []) (get_or (names fields) (k + 1) []) ≡ Less
    go (inl lower) = below k lower
    go (inr upper) =
        let here : k ≡ n - 1 = omega arith in
        let there : k + 1 ≡ n = omega arith in
        let one : get_or (names fields) k [] ≡ before = name_at fields k d (omega arith) ∙ ap (λ i. (get_or fields i d).name) here
        ∙ sym is_before in
        let two : get_or (names fields) (k + 1) [] ≡ next = name_at fields (k + 1) e (omega arith)
        ∙ ap (λ i. (get_or fields i e).name) there ∙ sym is_next in
        (λ i. slice_cmp nat_cmp (one i) (two i)) ∙ is_less _ test

length-names : (fields : List Field) → length (names fields) ≡ length fields
length-names [] = refl
length-names (field ∷ fields) = omega (arith, length-names fields)

pub ascending : (n : ℕ) (fields : List Field) → length fields ≤ n → AreBelow n fields → HasAscendingNames fields
ascending n fields h below = sorted_from_all_adjacent nat_list_cmp_total (names fields) []
    (λ k less. below k (omega (arith, length-names fields)))

pub braced_taken : (text first second rest : List ℕ) (fields : List Field) → text ≡ 123 ∷ first
    → first ≡ join_by field_text (codes ",") fields ++ second → second ≡ 125 ∷ rest → text ≡ value_text fields ++ rest
unfolding value_text
braced_taken text first second rest fields open_brace taken close_brace =
    let joined = join_by field_text (codes ",") fields in
    open_brace ∙ ap (λ left. 123 ∷ left) (taken ∙ ap (λ left. joined ++ left) close_brace ∙ sym (append_assoc joined (125 ∷ []) rest))

-- the value with no fields
pub braces_taken : (text rest : List ℕ) → text ≡ 123 ∷ 125 ∷ rest → text ≡ value_text [] ++ rest
unfolding value_text
braces_taken text rest e = e

pub begun_text : (bytes text left : List ℕ) (most : ℕ) → take most bytes ≡ text ++ left
    → take (length (take most bytes) - length left) bytes ≡ text
begun_text bytes text left most e =
    let all : bytes ≡ text ++ (left ++ drop most bytes) = sym (take-append-drop most bytes) ∙ ap (λ front. front ++ drop most bytes) e
    ∙ append_assoc text left (drop most bytes) in
    let taken : length (take most bytes) - length left ≡ length text = omega (arith, ap length e, length-append text left) in
    ap (λ k. take k bytes) taken ∙ ap (take (length text)) all ∙ take-append_seam text (left ++ drop most bytes)

-- what was taken of the first bytes is what all of them begin with
pub begun : (bytes text left : List ℕ) (most : ℕ) → take most bytes ≡ text ++ left
    → bytes ≡ text ++ take (length bytes - (length (take most bytes) - length left)) (drop (length (take most bytes) - length left) bytes)
begun bytes text left most e =
    let behind = left ++ drop most bytes in
    let all : bytes ≡ text ++ behind = sym (take-append-drop most bytes) ∙ ap (λ front. front ++ drop most bytes) e
    ∙ append_assoc text left (drop most bytes) in
    let taken : length (take most bytes) - length left ≡ length text = omega (arith, ap length e, length-append text left) in
    all
    ∙ ap (λ rest. text ++ rest) (sym (ap (drop (length text)) all ∙ drop-append_seam text behind)
    ∙ sym (take_all (length bytes - length text) (drop (length text) bytes) (omega (arith, length-drop (length text) bytes)))
    ∙ ap (λ (k : ℕ). take (length bytes - k) (drop k bytes)) (sym taken))

pub none_ascend : HasAscendingNames []
unfolding IsStrictlySortedBy
none_ascend = tt

-- a field alone in braces, with its name, its scalar and what stands behind them
pub lone_taken : (text inside rest number behind left : List ℕ) (field : Field) → text ≡ 123 ∷ inside
    → inside ≡ quoted field.name ++ rest → rest ≡ 58 ∷ number → number ≡ scalar_text field.scalar ++ behind → behind ≡ 125 ∷ left
    → text ≡ value_text (field ∷ []) ++ left
lone_taken text inside rest number behind left field open_brace name colon scalar close_brace =
    let taken : inside ≡ field_text field ++ behind =
    name ∙ ap (λ left. quoted field.name ++ left) (colon ∙ ap (λ left. 58 ∷ left) scalar)
    ∙ sym (append_assoc (quoted field.name) (58 ∷ scalar_text field.scalar) behind) in
    braced_taken text inside behind left (field ∷ []) open_brace
    (taken ∙ ap (λ front. front ++ behind) (sym (append-nil (field_text field)))) close_brace

pub one_ascends : (field : Field) → HasAscendingNames (field ∷ [])
one_ascends field = ascending 1 (field ∷ []) (omega arith) (λ k less. absurd (omega (arith, less)))
