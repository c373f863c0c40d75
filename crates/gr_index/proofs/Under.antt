-- The keys under a mark are those of the cells between its ends.
use Rattle.std.proofs.Common.{◌≡◌, ◌↔◌, ◌∙◌, ap, sym, refl, subst, ℕ, List, [], ◌∷◌, ◌++◌, Bool, true, false, ◌&&◌, ◌||◌, Option, Some, None, bytes_eq, map}
use Rattle.std.specs.Prelude.{cond, not}
use Rattle.std.specs.Borrow.{Bor}
use Rattle.std.specs.List.{list_any, filter, AllByRecursion}
use Rattle.std.specs.List.Sorted.{IsStrictlySortedBy}
use Rattle.std.specs.BTreeMap.Range.{range_contains}
use Rattle.std.specs.declared.cmp.Ordering.{Ordering}
use Rattle.std.specs.declared.cmp.Ordering.TheVariants.{Less, Equal, Greater}
use Rattle.std.specs.declared.ops.Bound.TheVariants.{Included, Excluded}
use Rattle.std.specs.Ordering.{nat_cmp, is_eq, is_le, ordering_then}
use Rattle.std.specs.Cmp.{IsEquivalence, decided}
use Rattle.std.specs.Cmp.Lexicographic.{slice_cmp}
use Rattle.std.proofs.lemmas.Map.Text.{is_eq-slice_cmp}
use Rattle.std.proofs.lemmas.Map.Views.{Contains-from_any, list_any-from_Contains}
use Rattle.std.proofs.lemmas.Slice.Eq.{bytes_eq-Decides}
use Rattle.gr_value.specs.declared.scalar.Scalar.{Scalar}
use Rattle.gr_value.specs.Sameness.{scalar_eq-Decides}
use Rattle.gr_oql.specs.Events.{Present}
use Rattle.gr_index.specs.declared.cell.Cell.{Cell}
use Rattle.gr_index.specs.declared.cell.Mark.{Mark}
use Rattle.gr_index.specs.declared.cell.Place.{Place}
use Rattle.gr_index.specs.declared.cell.Place.TheVariants.{Before, At, Behind}
use Rattle.gr_index.specs.Cells.{cell_cmp, mark_of, placed, with_key, keys_in, keys_between}
use Rattle.gr_index.specs.Index.{Index, scalar_in, is_scalar, has, IsIndexOf, AreKeysWith}
use Rattle.gr_index.proofs.Marked.{mark_cmp, mark_total, both_equal}

-- ---- keys are taken cell by cell

with_key-push : (place : Place) (keys : List (List ℕ)) (key : List ℕ) → with_key place (keys ++ key ∷ []) ≡ with_key place keys ++ key ∷ []
with_key-push Before keys key = refl
with_key-push (At other) keys key = refl
with_key-push Behind keys key = refl

pub one_more : (cells : List (Bor Cell)) (cell : Bor Cell) (key : List ℕ) → cell.now.place ≡ At key
    → keys_in (map (λ c. c.now) (cells ++ cell ∷ [])) ≡ keys_in (map (λ c. c.now) cells) ++ key ∷ []
one_more [] cell key is = ap (λ p. with_key p []) is
one_more (c ∷ cs) cell key is =
    ap (with_key c.now.place) (one_more cs cell key is) ∙ with_key-push c.now.place (keys_in (map (λ c. c.now) cs)) key

no_key : (place : Place) → ((key : List ℕ) → place ≡ At key → ⊥) → (keys : List (List ℕ)) → with_key place keys ≡ keys
no_key Before none keys = refl
no_key (At key) none keys = absurd (none key refl)
no_key Behind none keys = refl

pub none_more : (cells : List (Bor Cell)) (cell : Bor Cell) → ((key : List ℕ) → cell.now.place ≡ At key → ⊥)
    → keys_in (map (λ c. c.now) (cells ++ cell ∷ [])) ≡ keys_in (map (λ c. c.now) cells)
none_more [] cell none = no_key cell.now.place none []
none_more (c ∷ cs) cell none = ap (with_key c.now.place) (none_more cs cell none)

-- ---- which cells stand between the ends of a mark

within : Scalar → Cell → Bool
within one = range_contains cell_cmp (Included (placed one Before)) (Excluded (placed one Behind))

only_equal : (o : Ordering) → (is_le (ordering_then o Less) && not (is_le (ordering_then o Greater))) ≡ is_eq o
only_equal Less = refl
only_equal Equal = refl
only_equal Greater = refl

under : (one : Scalar) (mark : Mark) (key : List ℕ) → within one (record { mark = mark; place = At key }) ≡ is_eq (mark_cmp (mark_of one) mark)
unfolding within
under one mark key = only_equal (mark_cmp (mark_of one) mark)

never_before : (o : Ordering) → is_eq (ordering_then o Greater) ≡ false
never_before Less = refl
never_before Equal = refl
never_before Greater = refl

never_behind : (o : Ordering) → is_eq (ordering_then o Less) ≡ false
never_behind Less = refl
never_behind Equal = refl
never_behind Greater = refl

-- ---- the keys between are those that the index has

abbrev between : Scalar → List Cell → List (List ℕ)
between one cells = keys_in (filter (within one) cells)

dropped : (b : Bool) (cell : Cell) (cells : List Cell) → ((keys : List (List ℕ)) → with_key cell.place keys ≡ keys)
    → keys_in (cond b (cell ∷ cells) cells) ≡ keys_in cells
dropped true cell cells none = none (keys_in cells)
dropped false cell cells none = refl

found_at : (e : Bool) (mark : Mark) (key other : List ℕ) (cells : List Cell)
    → list_any (bytes_eq key) (keys_in (cond e (record { mark = mark; place = At other } ∷ cells) cells))
    ≡ ((e && bytes_eq key other) || list_any (bytes_eq key) (keys_in cells))
found_at true mark key other cells = refl
found_at false mark key other cells = refl

has_at : (one : Scalar) (mark : Mark) (place : Place) (key : List ℕ) (cells : List Cell)
    → list_any (bytes_eq key) (between one cells) ≡ has cells one key
    → list_any (bytes_eq key) (between one (record { mark = mark; place = place } ∷ cells))
    ≡ has (record { mark = mark; place = place } ∷ cells) one key
has_at one mark Before key cells rest =
    ap (list_any (bytes_eq key)) (dropped (within one (record { mark = mark; place = Before })) (record { mark = mark; place = Before })
    (filter (within one) cells) (λ keys. refl))
    ∙ rest ∙ ap (λ b. b || has cells one key) (sym (never_before (mark_cmp (mark_of one) mark)))
has_at one mark Behind key cells rest =
    ap (list_any (bytes_eq key)) (dropped (within one (record { mark = mark; place = Behind })) (record { mark = mark; place = Behind })
    (filter (within one) cells) (λ keys. refl))
    ∙ rest ∙ ap (λ b. b || has cells one key) (sym (never_behind (mark_cmp (mark_of one) mark)))
has_at one mark (At other) key cells rest =
    let same = is_eq (mark_cmp (mark_of one) mark) in
    ap (λ b. list_any (bytes_eq key) (keys_in (cond b (record { mark = mark; place = At other } ∷ filter (within one) cells)
    (filter (within one) cells)))) (under one mark other)
    ∙ found_at same mark key other (filter (within one) cells)
    ∙ ap (λ l. (same && bytes_eq key other) || l) rest
    ∙ ap (λ b. b || has cells one key) (sym (both_equal (mark_cmp (mark_of one) mark) (slice_cmp nat_cmp key other)
    ∙ ap (λ b. same && b) (is_eq-slice_cmp key other)))

has_between : (one : Scalar) (key : List ℕ) (cells : List Cell) → list_any (bytes_eq key) (between one cells) ≡ has cells one key
has_between one key [] = refl
has_between one key (cell ∷ cells) = has_at one cell.mark cell.place key cells (has_between one key cells)

-- ---- they are in order

equal_is : (o : Ordering) → is_eq o ≡ true → o ≡ Equal
equal_is Less is = cc
equal_is Equal is = refl
equal_is Greater is = cc

-- under one mark the keys tell the order
keys_tell : (one : Scalar) (mark other : Mark) (key behind : List ℕ) → is_eq (mark_cmp (mark_of one) mark) ≡ true
    → is_eq (mark_cmp (mark_of one) other) ≡ true
    → cell_cmp (record { mark = mark; place = At key }) (record { mark = other; place = At behind }) ≡ Less
    → slice_cmp nat_cmp key behind ≡ Less
keys_tell one mark other key behind is also less =
    let same : mark_cmp mark other ≡ Equal =
    sym (mark_total.congr (mark_of one) mark other (equal_is _ is)) ∙ equal_is _ also in
    ap (λ o. ordering_then o (slice_cmp nat_cmp key behind)) (sym same) ∙ less

module _ (one : Scalar) (mark : Mark) (key : List ℕ) (is : is_eq (mark_cmp (mark_of one) mark) ≡ true) where
  abbrev IsBelow : Cell → Type 0
  IsBelow cell = cell_cmp (record { mark = mark; place = At key }) cell ≡ Less

  below_at : (other : Mark) (place : Place) (cells : List Cell) → IsBelow (record { mark = other; place = place })
      → AllByRecursion (λ k. slice_cmp nat_cmp key k ≡ Less) (between one cells)
      → AllByRecursion (λ k. slice_cmp nat_cmp key k ≡ Less) (between one (record { mark = other; place = place } ∷ cells))
  below_at other Before cells less rest =
      subst (AllByRecursion (λ k. slice_cmp nat_cmp key k ≡ Less))
      (sym (dropped (within one (record { mark = other; place = Before })) (record { mark = other; place = Before })
      (filter (within one) cells) (λ keys. refl))) rest
  below_at other Behind cells less rest =
      subst (AllByRecursion (λ k. slice_cmp nat_cmp key k ≡ Less))
      (sym (dropped (within one (record { mark = other; place = Behind })) (record { mark = other; place = Behind })
      (filter (within one) cells) (λ keys. refl))) rest
  below_at other (At behind) cells less rest = by_mark (is_eq (mark_cmp (mark_of one) other)) refl
    where
      by_mark : (b : Bool) → is_eq (mark_cmp (mark_of one) other) ≡ b
          → AllByRecursion (λ k. slice_cmp nat_cmp key k ≡ Less) (between one (record { mark = other; place = At behind } ∷ cells))
      by_mark true also =
          subst (λ b. AllByRecursion (λ k. slice_cmp nat_cmp key k ≡ Less)
          (keys_in (cond b (record { mark = other; place = At behind } ∷ filter (within one) cells) (filter (within one) cells))))
          (sym (under one other behind ∙ also)) (keys_tell one mark other key behind is also less, rest)
      by_mark false also =
          subst (λ b. AllByRecursion (λ k. slice_cmp nat_cmp key k ≡ Less)
          (keys_in (cond b (record { mark = other; place = At behind } ∷ filter (within one) cells) (filter (within one) cells))))
          (sym (under one other behind ∙ also)) rest

  below : (cells : List Cell) → AllByRecursion IsBelow cells → AllByRecursion (λ k. slice_cmp nat_cmp key k ≡ Less) (between one cells)
  below [] all = tt
  below (cell ∷ cells) all = below_at cell.mark cell.place cells all.0 (below cells all.1)

sorted_at : (one : Scalar) (mark : Mark) (place : Place) (cells : List Cell)
    → AllByRecursion (λ c. cell_cmp (record { mark = mark; place = place }) c ≡ Less) cells
    → IsStrictlySortedBy (slice_cmp nat_cmp) (between one cells)
    → IsStrictlySortedBy (slice_cmp nat_cmp) (between one (record { mark = mark; place = place } ∷ cells))
unfolding IsStrictlySortedBy
sorted_at one mark Before cells less rest =
    subst (IsStrictlySortedBy (slice_cmp nat_cmp))
    (sym (dropped (within one (record { mark = mark; place = Before })) (record { mark = mark; place = Before })
    (filter (within one) cells) (λ keys. refl))) rest
sorted_at one mark Behind cells less rest =
    subst (IsStrictlySortedBy (slice_cmp nat_cmp))
    (sym (dropped (within one (record { mark = mark; place = Behind })) (record { mark = mark; place = Behind })
    (filter (within one) cells) (λ keys. refl))) rest
sorted_at one mark (At key) cells less rest = by_mark (is_eq (mark_cmp (mark_of one) mark)) refl
  where
    by_mark : (b : Bool) → is_eq (mark_cmp (mark_of one) mark) ≡ b
        → IsStrictlySortedBy (slice_cmp nat_cmp) (between one (record { mark = mark; place = At key } ∷ cells))
    by_mark true is =
        subst (λ b. IsStrictlySortedBy (slice_cmp nat_cmp)
        (keys_in (cond b (record { mark = mark; place = At key } ∷ filter (within one) cells) (filter (within one) cells))))
        (sym (under one mark key ∙ is)) (below one mark key is cells less, rest)
    by_mark false is =
        subst (λ b. IsStrictlySortedBy (slice_cmp nat_cmp)
        (keys_in (cond b (record { mark = mark; place = At key } ∷ filter (within one) cells) (filter (within one) cells))))
        (sym (under one mark key ∙ is)) rest

sorted_between : (one : Scalar) (cells : List Cell) → IsStrictlySortedBy cell_cmp cells
    → IsStrictlySortedBy (slice_cmp nat_cmp) (between one cells)
unfolding IsStrictlySortedBy
sorted_between one [] sorted = tt
sorted_between one (cell ∷ cells) sorted = sorted_at one cell.mark cell.place cells sorted.0 (sorted_between one cells sorted.1)

-- ---- together

same_bytes : IsEquivalence bytes_eq
same_bytes = decided bytes_eq bytes_eq-Decides

there : (found : Option Scalar) (one : Scalar) → is_scalar one found ≡ true ↔ (found ≡ Some one)
there None one = (λ is. cc, λ is. cc)
there (Some other) one = (
  λ is. ap (λ (s : Scalar). Some s) ((scalar_eq-Decides other one).0 is),
  λ is. (scalar_eq-Decides other one).1 (some_is other one is),
)
  where
    some_is : (a b : Scalar) → Some a ≡ Some b → a ≡ b
    some_is a b e = cc

pub are_keys : (one : Scalar) (index : Index) (keys : List (List ℕ))
    → keys ≡ keys_between (placed one Before) (placed one Behind) index.cells → IsStrictlySortedBy cell_cmp index.cells
    → (stands : Present) → IsIndexOf stands index → AreKeysWith index.field one stands keys
unfolding within
are_keys one index keys is sorted stands indexed = record {
  in_order = subst (IsStrictlySortedBy (slice_cmp nat_cmp)) (sym is) (sorted_between one index.cells sorted);
  exact = λ key.
      let same : list_any (bytes_eq key) keys ≡ is_scalar one (scalar_in index.field (stands key)) =
      ap (list_any (bytes_eq key)) is ∙ has_between one key index.cells ∙ indexed one key in (
        λ held. (there (scalar_in index.field (stands key)) one).0 (sym same ∙ list_any-from_Contains same_bytes key keys held),
        λ held. Contains-from_any (λ x y. (bytes_eq-Decides x y).0) key keys (same ∙ (there (scalar_in index.field (stands key)) one).1 held),
      );
}
