-- When the cells of two keys are one.
use Rattle.std.proofs.Common.{◌≡◌, ◌∙◌, ap, refl, ℕ, List, Bool, true, false, ◌&&◌, Option, Some, None, bytes_eq}
use Rattle.std.specs.declared.cmp.Ordering.{Ordering}
use Rattle.std.specs.declared.cmp.Ordering.TheVariants.{Less, Equal, Greater}
use Rattle.std.specs.Ordering.{nat_cmp, int_cmp, int_eq, bool_cmp, is_eq, ordering_then}
use Rattle.std.specs.Cmp.Lexicographic.{slice_cmp}
use Rattle.std.specs.Cmp.{IsTotalOrder, int_ranks, ranked_equal, signed_Decides}
use Rattle.std.specs.BTreeMap.{is_at}
use mathlib.Core.Bool.{beq}
use Rattle.std.proofs.lemmas.Bool.Decides.{same_from_decides}
use Rattle.std.proofs.lemmas.Cmp.{tied_itself}
use Rattle.std.proofs.lemmas.Map.Text.{is_eq-slice_cmp}
use Rattle.gr_value.specs.declared.scalar.Scalar.{Scalar}
use Rattle.gr_value.specs.declared.scalar.Scalar.TheVariants.{Null, Bool as Truth, Int, Text}
use Rattle.gr_value.specs.Scalars.{scalar_eq}
use Rattle.gr_index.specs.declared.cell.Mark.{Mark}
use Rattle.gr_index.specs.declared.cell.Place.TheVariants.{Before, Behind}
use Rattle.gr_index.specs.contracts.cell.MarkOrd.TheImpl as mark_ord
use Rattle.gr_index.specs.contracts.cell.MarkOrd.TheImpl.Laws as mark_laws
use Rattle.gr_index.specs.Cells.{cell_cmp, mark_of, placed, cell_at, cell_of, is_cell}
use Rattle.gr_index.specs.Index.{is_scalar}

abbrev pub mark_cmp : Mark → Mark → Ordering
mark_cmp = (mark_ord.ghosts).cmp

pub mark_total : IsTotalOrder mark_cmp
mark_total = mark_laws.total-law

same_flags : (one two : Bool) → is_eq (bool_cmp one two) ≡ beq one two
same_flags true true = refl
same_flags true false = refl
same_flags false true = refl
same_flags false false = refl

-- Marks are one where the scalars are.
pub same_marks : (one two : Scalar) → is_eq (mark_cmp (mark_of one) (mark_of two)) ≡ scalar_eq one two
same_marks Null Null = refl
same_marks Null (Truth b) = refl
same_marks Null (Int b) = refl
same_marks Null (Text b) = refl
same_marks (Truth a) Null = refl
same_marks (Truth a) (Truth b) = same_flags a b
same_marks (Truth a) (Int b) = refl
same_marks (Truth a) (Text b) = refl
same_marks (Int a) Null = refl
same_marks (Int a) (Truth b) = refl
same_marks (Int a) (Int b) =
    same_from_decides (is_eq (int_cmp a b)) (int_eq a b) (ranked_equal a b (int_cmp a b) (int_ranks a b)) (signed_Decides a b)
same_marks (Int a) (Text b) = refl
same_marks (Text a) Null = refl
same_marks (Text a) (Truth b) = refl
same_marks (Text a) (Int b) = refl
same_marks (Text a) (Text b) = is_eq-slice_cmp a b

pub both_equal : (a b : Ordering) → is_eq (ordering_then a b) ≡ (is_eq a && is_eq b)
both_equal Less b = refl
both_equal Equal b = refl
both_equal Greater b = refl

pub same_cells : (one two : Scalar) (key other : List ℕ)
    → is_at (cell_cmp (cell_at one key)) (cell_at two other) ≡ (scalar_eq one two && bytes_eq key other)
same_cells one two key other =
    both_equal (mark_cmp (mark_of one) (mark_of two)) _
    ∙ ap (λ b. b && is_eq (slice_cmp nat_cmp key other)) (same_marks one two)
    ∙ ap (λ b. scalar_eq one two && b) (is_eq-slice_cmp key other)

pub cell_is_at : (found : Option Scalar) (one : Scalar) (key other : List ℕ)
    → is_cell (cell_of key found) (cell_at one other) ≡ (is_scalar one found && bytes_eq key other)
cell_is_at None one key other = refl
cell_is_at (Some two) one key other = same_cells two one key other

-- The two ends of what lies under a mark are in order.
pub forward : (one : Scalar) → cell_cmp (placed one Before) (placed one Behind) ≡ Less
forward one = ap (λ o. ordering_then o Less) (tied_itself mark_total (mark_of one))
