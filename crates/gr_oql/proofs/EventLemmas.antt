-- A query's events keep up with what matches it.
use Rattle.std.proofs.Common.{◌≡◌, ℕ, List, Bool, true, false, Option, None, bytes_eq, refl, if◌then◌else◌}
use Rattle.std.specs.Prelude.{option_map}
use Rattle.std.proofs.lemmas.Slice.Eq.{bytes_eq-Decides}
use Rattle.gr_value.specs.declared.value.Field.{Field}
use Rattle.gr_oql.specs.declared.event.BaseOp.{BaseOp}
use Rattle.gr_oql.specs.declared.event.Event.{Event}
use Rattle.gr_oql.specs.declared.event.Turned.{Turned}
use Rattle.gr_oql.specs.Question.{Question}
use Rattle.gr_oql.specs.Events.{is_match, query_op, told, where_matching, with_told, base_op, Present}

-- the event by whether the old and the new value match
abbrev event_by : Bool → Bool → BaseOp → List ℕ → Option (List Field) → Option Event
event_by before after base key new = option_map (λ told. record { op = told; base = base; key = key; value = new }) (query_op before after)

same : (key : List ℕ) → bytes_eq key key ≡ true
same key = (bytes_eq-Decides key key).1 refl

there : (before after : Bool) (base : BaseOp) (key : List ℕ) (old new : Option (List Field)) (present : Present)
    → present key ≡ (if before then old else None)
    → with_told (event_by before after base key new) present key ≡ (if after then new else None)
there false false base key old new present stood = stood
there false true base key old new present stood = rw (same key) refl
there true false base key old new present stood = rw (same key) refl
there true true base key old new present stood = rw (same key) refl

elsewhere : (before after : Bool) (base : BaseOp) (key other : List ℕ) (new : Option (List Field)) (present : Present)
    → bytes_eq other key ≡ false → with_told (event_by before after base key new) present other ≡ present other
elsewhere false false base key other new present apart = refl
elsewhere false true base key other new present apart = rw apart refl
elsewhere true false base key other new present apart = rw apart refl
elsewhere true true base key other new present apart = rw apart refl

-- An event leaves at its key what matches of the new value, where there stood what matches of the old one.
pub with_told-there : (question : Question) (one : Turned) (present : Present)
    → present one.key ≡ where_matching question one.old → with_told (told question one) present one.key ≡ where_matching question one.new
with_told-there question one present stood =
    there (is_match question one.old) (is_match question one.new) (base_op one.had one.has one.new) one.key one.old one.new present stood

-- It leaves all other keys as they were.
pub with_told-elsewhere : (question : Question) (one : Turned) (other : List ℕ) (present : Present)
    → bytes_eq other one.key ≡ false → with_told (told question one) present other ≡ present other
with_told-elsewhere question one other present apart =
    elsewhere (is_match question one.old) (is_match question one.new) (base_op one.had one.has one.new) one.key other one.new present
    apart
