-- Keys under marks of scalars, in order.
use Rattle.std.specs.Prelude.{ℕ, List, [], ◌∷◌, Bool, false, Option, Some, None, option_map, if◌then◌else◌}
use Rattle.std.specs.List.{filter}
use Rattle.std.specs.BTreeMap.{is_at}
use Rattle.std.specs.BTreeMap.Range.{range_contains}
use Rattle.std.specs.declared.cmp.Ordering.{Ordering}
use Rattle.std.specs.declared.ops.Bound.TheVariants.{Included, Excluded}
use Rattle.gr_value.specs.declared.scalar.Scalar.{Scalar}
use Rattle.gr_value.specs.declared.scalar.Scalar.TheVariants as scalar
use Rattle.gr_value.specs.Scalars.{scalar_eq}
use Rattle.gr_index.specs.declared.cell.Mark.{Mark}
use Rattle.gr_index.specs.declared.cell.Mark.TheVariants as mark
use Rattle.gr_index.specs.declared.cell.Place.{Place}
use Rattle.gr_index.specs.declared.cell.Place.TheVariants.{Before, At, Behind}
use Rattle.gr_index.specs.declared.cell.Cell.{Cell}
use Rattle.gr_index.specs.contracts.cell.CellOrd.TheImpl as cell_ord

-- marks first, then places
abbrev pub cell_cmp : Cell → Cell → Ordering
cell_cmp = (cell_ord.ghosts).cmp

abbrev pub mark_of : Scalar → Mark
mark_of scalar.Null = mark.Null
mark_of (scalar.Bool truth) = mark.Bool truth
mark_of (scalar.Int number) = mark.Int number
mark_of (scalar.Text text) = mark.Text text

abbrev pub placed : Scalar → Place → Cell
placed one place = record { mark = mark_of one; place = place }

abbrev pub cell_at : Scalar → List ℕ → Cell
cell_at one key = placed one (At key)

-- the cell of a key, where it has a scalar
abbrev pub cell_of : List ℕ → Option Scalar → Option Cell
cell_of key found = option_map (λ one. cell_at one key) found

abbrev pub is_cell : Option Cell → Cell → Bool
is_cell None q = false
is_cell (Some cell) q = is_at (cell_cmp cell) q

-- the old scalar, unless it is the new one too
abbrev pub left_behind : Option Scalar → Option Scalar → Option Scalar
left_behind None new = None
left_behind (Some one) None = Some one
left_behind (Some one) (Some two) = if scalar_eq one two then None else Some one

-- with the key at a place, where one is there
abbrev pub with_key : Place → List (List ℕ) → List (List ℕ)
with_key Before keys = keys
with_key (At key) keys = key ∷ keys
with_key Behind keys = keys

-- the keys of cells, in order
abbrev pub keys_in : List Cell → List (List ℕ)
keys_in [] = []
keys_in (cell ∷ cells) = with_key cell.place (keys_in cells)

-- those of the cells between two
abbrev pub keys_between : Cell → Cell → List Cell → List (List ℕ)
keys_between from to cells = keys_in (filter (range_contains cell_cmp (Included from) (Excluded to)) cells)
