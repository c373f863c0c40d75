-- The fields of members, read one after another.
use Rattle.std.proofs.Common.{◌≡◌, ◌∙◌, ap, subst, ℕ, ◌+◌, arith, List, [], ◌∷◌, ◌++◌, length, map, Result, Ok, Err, String, Global}
use Rattle.std.proofs.Common.{string_bytes, string_cmp, nat_cmp, Less, refl, sym, append_assoc, append-nil, ◌⊎◌, inl, inr}
use Rattle.std.specs.Cmp.Lexicographic.{slice_cmp}
use Rattle.std.specs.List.{AllByRecursion}
use Rattle.std.specs.List.Sorted.{IsStrictlySortedBy}
use Rattle.std.specs.Map.{keys_of}
use Rattle.serde_json.specs.View.{view, members_view}
use Rattle.serde_json.specs.declared.value.Value.{Value as Json}
use Rattle.gr_value.specs.declared.fault.ValueFault.{ValueFault}
use Rattle.gr_value.specs.declared.fault.ValueFault.TheVariants.{Memory}
use Rattle.gr_value.specs.declared.scalar.Scalar.{Scalar}
use Rattle.gr_value.specs.declared.value.Field.{Field}
use Rattle.gr_value.specs.ValueReading.{scalar_at, with_field, fields_from, RefusedAs}
use Rattle.gr_value.specs.Values.{IsField, HasAscendingNames}

abbrev pub Entry : Type 0
Entry = String Global × Json

abbrev pub entry_names : List Entry → List (List ℕ)
entry_names entries = map (λ entry. string_bytes entry.0) entries

abbrev pub names : List Field → List (List ℕ)
names fields = map (λ field. field.name) fields

-- what was read of the members so far, before the rest of them
abbrev before : List Field → Result (List Field) ValueFault → Result (List Field) ValueFault
before done (Ok rest) = Ok (done ++ rest)
before done (Err fault) = Err fault

-- So far `done` was read of the entries, and `left` is left from this place on.
pub record HasRead (entries : List Entry) (done : List Field) (place : ℕ) (left : List Entry) : Type 0 where
  pub read : fields_from 0 (members_view entries) ≡ before done (fields_from place (members_view left))
  pub readable : AllByRecursion IsField done
  pub named : names done ++ entry_names left ≡ entry_names entries
  pub count : place + length left ≡ length entries

before_none : (outcome : Result (List Field) ValueFault) → outcome ≡ before [] outcome
before_none (Ok rest) = refl
before_none (Err fault) = refl

pub read_none : (entries : List Entry) → HasRead entries [] 0 entries
read_none entries = record { read = before_none _; readable = tt; named = refl; count = omega arith }

field_last : (done : List Field) (name : List ℕ) (scalar : Scalar) (rest : Result (List Field) ValueFault)
    → before done (with_field name (Ok scalar) rest) ≡ before (done ++ record { name = name; scalar = scalar } ∷ []) rest
field_last done name scalar (Ok rest) = ap Ok (sym (append_assoc done (record { name = name; scalar = scalar } ∷ []) rest))
field_last done name scalar (Err fault) = refl

pub readable_push : (done : List Field) (field : Field) → AllByRecursion IsField done → IsField field
    → AllByRecursion IsField (done ++ field ∷ [])
readable_push [] field h is = (is, tt)
readable_push (first ∷ done) field h is = (h.0, readable_push done field h.1 is)

names_push : (done : List Field) (field : Field) (left : List (List ℕ)) → names (done ++ field ∷ []) ++ left ≡ names done
    ++ field.name ∷ left
names_push [] field left = refl
names_push (first ∷ done) field left = ap (λ rest. first.name ∷ rest) (names_push done field left)

-- the next member is a field
pub read_more : (entries : List Entry) (done : List Field) (place : ℕ) (entry : Entry) (left : List Entry) (field : Field)
    → HasRead entries done place (entry ∷ left)
    → field.name ≡ string_bytes entry.0 → scalar_at place (view entry.1) ≡ Ok field.scalar → IsField field
    → HasRead entries (done ++ field ∷ []) (place + 1) left
read_more entries done place entry left field h named is ok =
    let after = fields_from (place + 1) (members_view left) in
    record {
      read =
          h.read ∙ ap (λ found. before done (with_field (string_bytes entry.0) found after)) is
          ∙ ap (λ name. before done (with_field name (Ok field.scalar) after)) (sym named)
          ∙ field_last done field.name field.scalar after;
      readable = readable_push done field h.readable ok;
      named = names_push done field (entry_names left) ∙ ap (λ name. names done ++ name ∷ entry_names left) named ∙ h.named;
      count = omega (arith, h.count);
    }

-- the next member is at fault, or there was no memory for its scalar
pub read_fault : (entries : List Entry) (done : List Field) (place : ℕ) (entry : Entry) (left : List Entry) (fault : ValueFault)
    → HasRead entries done place (entry ∷ left)
    → (fault ≡ Memory) ⊎ (scalar_at place (view entry.1) ≡ Err fault) → RefusedAs fault (fields_from 0 (members_view entries))
read_fault entries done place entry left fault h (inl memory) = inl memory
read_fault entries done place entry left fault h (inr is) =
    inr (h.read
    ∙ ap (λ found. before done (with_field (string_bytes entry.0) found (fields_from (place + 1) (members_view left)))) is)

keys_below : (key : String Global) (entries : List Entry) → AllByRecursion (λ other. string_cmp key other ≡ Less) (keys_of entries)
    → AllByRecursion (λ other. slice_cmp nat_cmp (string_bytes key) other ≡ Less) (entry_names entries)
keys_below key [] h = tt
keys_below key (entry ∷ entries) h = (h.0, keys_below key entries h.1)

ascending : (entries : List Entry) → IsStrictlySortedBy string_cmp (keys_of entries)
    → IsStrictlySortedBy (slice_cmp nat_cmp) (entry_names entries)
unfolding IsStrictlySortedBy
ascending [] h = tt
ascending (entry ∷ entries) h = (keys_below entry.0 entries h.0, ascending entries h.1)

pub record HasReadAll (entries : List Entry) (done : List Field) : Type 0 where
  pub value : fields_from 0 (members_view entries) ≡ Ok done
  pub readable : AllByRecursion IsField done
  pub ascending : HasAscendingNames done

pub read_all : (entries : List Entry) (done : List Field) (place : ℕ) → HasRead entries done place []
    → IsStrictlySortedBy string_cmp (keys_of entries) → HasReadAll entries done
read_all entries done place h ordered = record {
  value = h.read ∙ ap Ok (append-nil done);
  readable = h.readable;
  ascending = let e : entry_names entries ≡ names done = sym h.named ∙ append-nil (names done) in
      subst (IsStrictlySortedBy (slice_cmp nat_cmp)) e (ascending entries ordered);
}
