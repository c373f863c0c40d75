-- A query that a change can't concern is told nothing of it.
use Rattle.std.proofs.Common.{◌≡◌, ◌↔◌, ◌∙◌, ap, sym, refl, subst, List, [], ◌∷◌, ◌++◌, Bool, true, false, ◌||◌, Option, Some, None}
use Rattle.std.proofs.Common.{ℕ, ◌+◌, ◌<◌, length, take, get_or}
use Rattle.std.specs.Prelude.{option_map}
use Rattle.std.specs.List.{AllByRecursion, cons_option}
use Rattle.std.proofs.lemmas.List.{take_more}
use Rattle.std.proofs.lemmas.List.Elements.{filter_map-append}
use Rattle.gr_value.specs.declared.scalar.Scalar.{Scalar}
use Rattle.gr_value.specs.declared.value.Field.{Field}
use Rattle.gr_value.specs.Fields.{field_of}
use Rattle.gr_value.specs.Sameness.{scalar_eq-Decides}
use Rattle.gr_oql.specs.declared.event.Event.{Event}
use Rattle.gr_oql.specs.declared.event.QueryOp.{QueryOp}
use Rattle.gr_oql.specs.declared.event.Turned.{Turned}
use Rattle.gr_oql.specs.declared.must.Must.{Must}
use Rattle.gr_oql.specs.declared.truth.Truth.{Truth}
use Rattle.gr_oql.specs.declared.truth.Truth.TheVariants.{Holds, Fails, Undefined}
use Rattle.gr_oql.specs.Events.{is_holding, is_match, query_op, base_op, told, told_all}
use Rattle.gr_oql.specs.Matching.{matches}
use Rattle.gr_oql.specs.Must.{must_of, IsMet}
use Rattle.gr_oql.specs.Question.{Question}
use Rattle.gr_oql.proofs.MustLemmas.{met}
use Rattle.gr_cq.specs.Concern.{is_scalar, meets_fields, meets, can_concern}

scalar_is : (found : Option Scalar) (equal : Scalar) → is_scalar found equal ≡ true → found ≡ Some equal
scalar_is None equal e = absurd cc
scalar_is (Some scalar) equal e = ap Some ((scalar_eq-Decides scalar equal).0 e)

is_found : (found : Option Scalar) (equal : Scalar) → found ≡ Some equal → is_scalar found equal ≡ true
is_found None equal e = absurd cc
is_found (Some scalar) equal e = (scalar_eq-Decides scalar equal).1 cc

pub meets_is : (fields : List Field) (must : Must) → meets_fields fields must ≡ true ↔ IsMet fields must
meets_is fields must = (scalar_is (field_of must.field fields) must.equal, is_found (field_of must.field fields) must.equal)

either_not : (a b : Bool) → (a || b) ≡ false → (a ≡ false) × (b ≡ false)
either_not true b e = absurd cc
either_not false b e = (refl, e)

true_isnt : true ≡ false → ⊥
true_isnt e = cc

-- A value that doesn't meet the first must doesn't match.
unmet : (question : Question) (value : Option (List Field)) (first : Must) (rest : List Must) → must_of question ≡ first ∷ rest
    → meets value first ≡ false → is_match question value ≡ false
unmet question None first rest is none = refl
unmet question (Some fields) first rest is none = at_truth (matches question fields) refl
  where
    at_truth : (t : Truth) → matches question fields ≡ t → is_holding t ≡ false
    at_truth Holds e =
        let all : AllByRecursion (IsMet fields) (first ∷ rest) = subst (AllByRecursion (IsMet fields)) is (met question fields e) in
        absurd (true_isnt (sym ((meets_is fields first).1 all.0) ∙ none))
    at_truth Fails e = refl
    at_truth Undefined e = refl

told_none : (question : Question) (turned : Turned) → is_match question turned.old ≡ false → is_match question turned.new ≡ false
    → told question turned ≡ None
told_none question turned old new =
    ap (option_map made) (ap (λ b. query_op b (is_match question turned.new)) old ∙ ap (query_op false) new)
  where
    made : QueryOp → Event
    made op = record { op = op; base = base_op turned.had turned.has turned.new; key = turned.key; value = turned.new }

pub untold : (question : Question) (turned : Turned) → can_concern (must_of question) turned ≡ false → told question turned ≡ None
untold question turned none = at_must (must_of question) refl none
  where
    at_must : (musts : List Must) → must_of question ≡ musts → can_concern musts turned ≡ false → told question turned ≡ None
    at_must [] is none = absurd cc
    at_must (first ∷ rest) is none =
        let both = either_not (meets turned.old first) (meets turned.new first) none in
        told_none question turned (unmet question turned.old first rest is both.0) (unmet question turned.new first rest is both.1)

-- ---- key by key

pub told_next : (question : Question) (turned : List Turned) (i : ℕ) (d : Turned) → i < length turned
    → told_all question (take (i + 1) turned) ≡ told_all question (take i turned) ++ told_all question (get_or turned i d ∷ [])
told_next question turned i d lt =
    ap (told_all question) (take_more turned i d lt) ∙ filter_map-append (told question) (take i turned) (get_or turned i d ∷ [])

-- of a key that can't concern it nothing is told
pub none_told : (question : Question) (turned : Turned) → can_concern (must_of question) turned ≡ false → told_all question (turned ∷ []) ≡ []
none_told question turned none = ap (λ found. cons_option found []) (untold question turned none)
