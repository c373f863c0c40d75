-- When an index has the keys of a map by the scalar of a field.
use Rattle.std.specs.Prelude.{◌≡◌, ◌↔◌, ℕ, List, Bool, false, Option, Some, None, bytes_eq, if◌then◌else◌}
use Rattle.std.specs.List.{list_any, Contains}
use Rattle.std.specs.List.Sorted.{IsStrictlySortedBy}
use Rattle.std.specs.Ordering.{nat_cmp}
use Rattle.std.specs.Cmp.Lexicographic.{slice_cmp}
use Rattle.std.specs.BTreeMap.{is_at}
use Rattle.gr_value.specs.declared.scalar.Scalar.{Scalar}
use Rattle.gr_value.specs.declared.value.Field.{Field}
use Rattle.gr_value.specs.Fields.{field_of}
use Rattle.gr_value.specs.Scalars.{scalar_eq}
use Rattle.gr_oql.specs.declared.event.Turned.{Turned}
use Rattle.gr_oql.specs.Events.{Present}
use Rattle.gr_index.specs.declared.cell.Cell.{Cell}
use Rattle.gr_index.specs.Cells.{cell_cmp, cell_at}

-- the scalar of a field, where there is a value and it has the field
abbrev pub scalar_in : List ℕ → Option (List Field) → Option Scalar
scalar_in field None = None
scalar_in field (Some fields) = field_of field fields

abbrev pub is_scalar : Scalar → Option Scalar → Bool
is_scalar one None = false
is_scalar one (Some other) = scalar_eq other one

abbrev pub nowhere : Present
nowhere key = None

-- the map once a key has turned
abbrev pub turned_map : Turned → Present → Present
turned_map turned map key = if bytes_eq turned.key key then turned.new else map key

pub record Index : Type 0 where
  pub field : List ℕ
  pub cells : List Cell

abbrev pub has : List Cell → Scalar → List ℕ → Bool
has cells one key = list_any (is_at (cell_cmp (cell_at one key))) cells

-- It has each key under just the scalar that the map's value there has in the field.
abbrev pub IsIndexOf : Present → Index → Type 0
IsIndexOf map index = (one : Scalar) (key : List ℕ) → has index.cells one key ≡ is_scalar one (scalar_in index.field (map key))

-- In order, the keys whose value has the field with the scalar, and no others.
pub record AreKeysWith (field : List ℕ) (one : Scalar) (map : Present) (keys : List (List ℕ)) : Type 0 where
  pub in_order : IsStrictlySortedBy (slice_cmp nat_cmp) keys
  pub exact : (key : List ℕ) → Contains keys key ↔ (scalar_in field (map key) ≡ Some one)
