-- A field that is looked for, one field after the other.
use Rattle.std.proofs.Common.{◌≡◌, ◌∙◌, ap, refl, ℕ, zero, suc, ◌+◌, ◌<◌, List, [], ◌∷◌, true, false, bytes_eq, drop, get_or, length, arith, add-one}
use Rattle.std.specs.Prelude.{Some}
use Rattle.gr_value.specs.declared.value.Field.{Field}
use Rattle.gr_value.specs.Fields.{field_of}

pub found_here : (name : List ℕ) (fields : List Field) (i : ℕ) (d : Field) → i < length fields
    → bytes_eq (get_or fields i d).name name ≡ true → field_of name (drop i fields) ≡ Some (get_or fields i d).scalar
found_here name [] i d lt is = absurd (omega (arith, lt))
found_here name (field ∷ fields) zero d lt is = rw is refl
found_here name (field ∷ fields) (suc i) d lt is = found_here name fields i d (omega (arith, lt)) is

not_here : (name : List ℕ) (fields : List Field) (i : ℕ) (d : Field) → i < length fields
    → bytes_eq (get_or fields i d).name name ≡ false → field_of name (drop (suc i) fields) ≡ field_of name (drop i fields)
not_here name [] i d lt isnt = absurd (omega (arith, lt))
not_here name (field ∷ fields) zero d lt isnt = rw isnt refl
not_here name (field ∷ fields) (suc i) d lt isnt = not_here name fields i d (omega (arith, lt)) isnt

pub passed : (name : List ℕ) (fields : List Field) (i : ℕ) (d : Field) → i < length fields
    → bytes_eq (get_or fields i d).name name ≡ false → field_of name (drop (i + 1) fields) ≡ field_of name (drop i fields)
passed name fields i d lt isnt = ap (λ n. field_of name (drop n fields)) (add-one i) ∙ not_here name fields i d lt isnt
