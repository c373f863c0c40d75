-- Which bytes are a key.
use Rattle.std.proofs.Common.{◌≡◌, ℕ, ◌+◌, ◌≤◌, List, [], ◌∷◌, length, Bool, true, false, not, cond, eqb, ltb, Option, Some, None}
use Rattle.std.proofs.Common.{option_map, inl, inr, refl, ap, ◌∙◌, arith}
use Rattle.std.specs.List.{prefix_len, list_all}
use Rattle.std.proofs.lemmas.Bool.{cases_Bool, ltb-false, and_parts, le-ltb, cond-false, ne_eqb, and_from}
use Rattle.gr_value.specs.declared.fault.KeyFault.TheVariants.{BadByte}
use Rattle.gr_value.specs.KeyBytes.{is_key_byte, bad_place, key_fault}

-- where all bytes are a key's, none is out of place
all_key_bytes : (bytes : List ℕ) → list_all is_key_byte bytes ≡ true
    → prefix_len (λ byte. not (not (is_key_byte byte))) bytes ≡ length bytes
all_key_bytes [] all = refl
all_key_bytes (byte ∷ bytes) all =
    let parts = and_parts (is_key_byte byte) (list_all is_key_byte bytes) all in
    ap (λ (b : Bool). cond (not (not b)) (1 + prefix_len (λ byte. not (not (is_key_byte byte))) bytes) 0) parts.0
    ∙ ap (λ (n : ℕ). 1 + n) (all_key_bytes bytes parts.1) ∙ omega arith

no_bad_place : (bytes : List ℕ) → list_all is_key_byte bytes ≡ true → bad_place bytes ≡ None
no_bad_place bytes all =
    let place = prefix_len (λ byte. not (not (is_key_byte byte))) bytes in
    let at_end : length bytes ≤ place = omega (arith, all_key_bytes bytes all) in
    cond-false (ltb place (length bytes)) (Some place) None (le-ltb place (length bytes) at_end)

-- a key's bytes, few enough, are a key
pub few_key_bytes : (bytes : List ℕ) → (length bytes ≡ 0 → ⊥) → length bytes ≤ 255 → list_all is_key_byte bytes ≡ true
    → key_fault bytes ≡ None
few_key_bytes bytes some few all =
    cond-false (eqb (length bytes) 0) _ _ (ne_eqb (length bytes) 0 some)
    ∙ cond-false (ltb 255 (length bytes)) _ _ (le-ltb 255 (length bytes) few)
    ∙ ap (option_map BadByte) (no_bad_place bytes all)

all_in_place : (bytes : List ℕ) → length bytes ≤ prefix_len (λ byte. not (not (is_key_byte byte))) bytes
    → list_all is_key_byte bytes ≡ true
all_in_place [] le = refl
all_in_place (byte ∷ bytes) le =
    let rest = prefix_len (λ byte. not (not (is_key_byte byte))) bytes in
    elim (cases_Bool (is_key_byte byte)) [
      | inl is ↦
          let n : prefix_len (λ byte. not (not (is_key_byte byte))) (byte ∷ bytes) ≡ 1 + rest =
          ap (λ (b : Bool). cond (not (not b)) (1 + rest) 0) is in
          and_from _ _ is (all_in_place bytes (omega (arith, n, le)))
      | inr isnt ↦
          let n : prefix_len (λ byte. not (not (is_key_byte byte))) (byte ∷ bytes) ≡ 0 =
          ap (λ (b : Bool). cond (not (not b)) (1 + rest) 0) isnt in
          absurd (omega (arith, n, le))
    ]

none_found : (place : Option ℕ) → option_map BadByte place ≡ None → place ≡ None
none_found None e = refl
none_found (Some place) e = absurd cc

-- what answers None was not the first of two choices
second : {A : Type 0} (test : Bool) (x : A) (others : Option A) → cond test (Some x) others ≡ None → (test ≡ false) × (others ≡ None)
second true x others e = absurd cc
second false x others e = (refl, e)

pub key_bytes : (key : List ℕ) → key_fault key ≡ None → list_all is_key_byte key ≡ true
key_bytes key e =
    let some = second (eqb (length key) 0) _ _ e in
    let few = second (ltb 255 (length key)) _ _ some.1 in
    let place = prefix_len (λ byte. not (not (is_key_byte byte))) key in
    let none = second (ltb place (length key)) place None (none_found (bad_place key) few.1) in
    all_in_place key (ltb-false place (length key) none.0)
