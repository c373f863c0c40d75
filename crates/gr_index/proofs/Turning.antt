-- An index that follows a turned key is that of the map that follows it.
use Rattle.std.proofs.Common.{◌≡◌, ◌∙◌, ap, sym, refl, ℕ, List, Bool, true, false, ◌&&◌, Option, Some, None, bytes_eq, if◌then◌else◌}
use Rattle.std.specs.Prelude.{cond}
use Rattle.std.specs.List.{list_any}
use Rattle.std.specs.BTreeMap.{is_at}
use Rattle.std.proofs.lemmas.Slice.Eq.{bytes_eq-Decides}
use Rattle.gr_value.specs.declared.scalar.Scalar.{Scalar}
use Rattle.gr_value.specs.Scalars.{scalar_eq}
use Rattle.gr_value.specs.Sameness.{scalar_eq-Decides}
use Rattle.gr_oql.specs.declared.event.Turned.{Turned}
use Rattle.gr_oql.specs.Events.{Present}
use Rattle.gr_index.specs.declared.cell.Cell.{Cell}
use Rattle.gr_index.specs.Cells.{cell_cmp, cell_at, cell_of, is_cell, left_behind}
use Rattle.gr_index.specs.Index.{scalar_in, is_scalar, turned_map, has, IsIndexOf}
use Rattle.gr_index.proofs.Marked.{cell_is_at}

or_none : (n : Bool) → cond n true false ≡ n
or_none true = refl
or_none false = refl

or_same : (n : Bool) → cond n true n ≡ n
or_same true = refl
or_same false = refl

gone : (g : Bool) → cond g false g ≡ false
gone true = refl
gone false = refl

and_false : (x : Bool) → (x && false) ≡ false
and_false true = refl
and_false false = refl

and_true : (x : Bool) → (x && true) ≡ x
and_true true = refl
and_true false = refl

-- two scalars that differ, and one that is to be the one or the other
apart : (a b one : Scalar) → scalar_eq a b ≡ false → (o n : Bool) → scalar_eq a one ≡ o → scalar_eq b one ≡ n
    → cond o false (cond n true o) ≡ n
apart a b one differ true true is also =
    let both : a ≡ b = (scalar_eq-Decides a one).0 is ∙ sym ((scalar_eq-Decides b one).0 also) in
    absurd (cc_of (sym differ ∙ (scalar_eq-Decides a b).1 both))
  where
    cc_of : false ≡ true → ⊥
    cc_of e = cc
apart a b one differ true false is also = refl
apart a b one differ false true is also = refl
apart a b one differ false false is also = refl

by_same : (a b one : Scalar) (same : Bool) → scalar_eq a b ≡ same
    → cond (is_scalar one (if same then None else Some a)) false (cond (scalar_eq b one) true (scalar_eq a one)) ≡ scalar_eq b one
by_same a b one true is =
    ap (λ s. cond (scalar_eq b one) true (scalar_eq s one)) ((scalar_eq-Decides a b).0 is) ∙ or_same (scalar_eq b one)
by_same a b one false is = apart a b one is (scalar_eq a one) (scalar_eq b one) refl refl

exchanged : (old new : Option Scalar) (one : Scalar)
    → cond (is_scalar one (left_behind old new)) false (cond (is_scalar one new) true (is_scalar one old)) ≡ is_scalar one new
exchanged None new one = or_none (is_scalar one new)
exchanged (Some a) None one = gone (scalar_eq a one)
exchanged (Some a) (Some b) one = by_same a b one (scalar_eq a b) refl

module _ (field : List ℕ) (map : Present) (turned : Turned) (before between after : List Cell) (come left : Option Cell)
    (come_is : come ≡ cell_of turned.key (scalar_in field turned.new))
    (left_is : left ≡ cell_of turned.key (left_behind (scalar_in field turned.old) (scalar_in field turned.new)))
    (added : (q : Cell) → list_any (is_at (cell_cmp q)) between ≡ cond (is_cell come q) true (list_any (is_at (cell_cmp q)) before))
    (taken : (q : Cell) → list_any (is_at (cell_cmp q)) after ≡ cond (is_cell left q) false (list_any (is_at (cell_cmp q)) between))
    (index : IsIndexOf map record { field = field; cells = before }) (stood : map turned.key ≡ turned.old) where
  abbrev comes : Scalar → Bool
  comes one = is_scalar one (scalar_in field turned.new)

  abbrev leaves : Scalar → Bool
  leaves one = is_scalar one (left_behind (scalar_in field turned.old) (scalar_in field turned.new))

  by_key : (one : Scalar) (key : List ℕ) (b : Bool) → bytes_eq turned.key key ≡ b
      → cond (leaves one && b) false (cond (comes one && b) true (is_scalar one (scalar_in field (map key))))
      ≡ is_scalar one (scalar_in field (if b then turned.new else map key))
  by_key one key true same =
      let there : map key ≡ turned.old = ap map (sym ((bytes_eq-Decides turned.key key).0 same)) ∙ stood in
      ap (λ l. cond l false (cond (comes one && true) true (is_scalar one (scalar_in field (map key))))) (and_true (leaves one))
      ∙ ap (λ n. cond (leaves one) false (cond n true (is_scalar one (scalar_in field (map key))))) (and_true (comes one))
      ∙ ap (λ o. cond (leaves one) false (cond (comes one) true (is_scalar one (scalar_in field o)))) there
      ∙ exchanged (scalar_in field turned.old) (scalar_in field turned.new) one
  by_key one key false same =
      ap (λ l. cond l false (cond (comes one && false) true (is_scalar one (scalar_in field (map key))))) (and_false (leaves one))
      ∙ ap (λ n. cond n true (is_scalar one (scalar_in field (map key)))) (and_false (comes one))

  pub turned_index : (one : Scalar) (key : List ℕ) → has after one key ≡ is_scalar one (scalar_in field (turned_map turned map key))
  turned_index one key =
      taken (cell_at one key)
      ∙ ap (λ b. cond (is_cell left (cell_at one key)) false b) (added (cell_at one key))
      ∙ ap (λ c. cond (is_cell c (cell_at one key)) false (cond (is_cell come (cell_at one key)) true (has before one key))) left_is
      ∙ ap (λ b. cond b false (cond (is_cell come (cell_at one key)) true (has before one key))) (cell_is_at _ one turned.key key)
      ∙ ap (λ c. cond (leaves one && bytes_eq turned.key key) false (cond (is_cell c (cell_at one key)) true (has before one key))) come_is
      ∙ ap (λ b. cond (leaves one && bytes_eq turned.key key) false (cond b true (has before one key))) (cell_is_at _ one turned.key key)
      ∙ ap (λ h. cond (leaves one && bytes_eq turned.key key) false (cond (comes one && bytes_eq turned.key key) true h)) (index one key)
      ∙ by_key one key (bytes_eq turned.key key) refl
