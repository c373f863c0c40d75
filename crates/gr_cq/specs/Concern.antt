-- Whether a change can concern a query, by what a value must have where it matches.
use Rattle.std.specs.Prelude.{List, [], ◌∷◌, ◌||◌, Bool, true, false, Option, Some, None}
use Rattle.gr_value.specs.declared.scalar.Scalar.{Scalar}
use Rattle.gr_value.specs.declared.value.Field.{Field}
use Rattle.gr_value.specs.Fields.{field_of}
use Rattle.gr_value.specs.Scalars.{scalar_eq}
use Rattle.gr_oql.specs.declared.event.Turned.{Turned}
use Rattle.gr_oql.specs.declared.must.Must.{Must}

-- whether a field is there, and is this scalar
abbrev pub is_scalar : Option Scalar → Scalar → Bool
is_scalar None equal = false
is_scalar (Some scalar) equal = scalar_eq scalar equal

abbrev pub meets_fields : List Field → Must → Bool
meets_fields fields must = is_scalar (field_of must.field fields) must.equal

-- an absent value meets nothing
abbrev pub meets : Option (List Field) → Must → Bool
meets None must = false
meets (Some fields) must = meets_fields fields must

-- A change can concern a query that must have nothing, and one whose first must the old or the new value meets.
abbrev pub can_concern : List Must → Turned → Bool
can_concern [] turned = true
can_concern (first ∷ rest) turned = meets turned.old first || meets turned.new first
