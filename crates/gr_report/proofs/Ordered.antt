-- Rows that stand in the order of their keys are gathered as they are.
use Rattle.std.proofs.Common.{◌≡◌, ◌∙◌, ap, sym, refl, subst, ℕ, suc, ◌+◌, ◌<◌, List, [], ◌∷◌, ◌++◌, map, length, slice_index_or, append_assoc, append-nil, arith}
use Rattle.std.proofs.Common.{Bool, true, false, if◌then◌else◌, Option, Some, None, flat_map, Bor}
use Rattle.std.specs.declared.cmp.Ordering.{Ordering}
use Rattle.std.specs.declared.cmp.Ordering.TheVariants.{Less, Equal, Greater}
use Rattle.std.specs.Ordering.{nat_cmp, match_ordering, ordering_reverse}
use Rattle.std.specs.Cmp.{nat_cmp_total, IsTotalOrder, eq_by_cmp_equiv}
use Rattle.std.specs.Cmp.Lexicographic.{slice_cmp, lists_total}
use Rattle.std.specs.FinMap.{FinMap, empty, entries, entries-insert, find, get, get-insert, insert, len-empty, len-entries, put, nat_cmp-IsAntisymmetric, same_map, slice_cmp-IsAntisymmetric}
use Rattle.std.specs.FinMap.Entries.{by_order}
use Rattle.std.specs.List.{fold, AllByRecursion, IsDistinct}
use Rattle.std.specs.List.Sorted.{IsPermutation, IsStrictlySortedBy}
use Rattle.std.specs.BTreeMap.{insert_entry, is_at}
use Rattle.std.specs.Map.{keys_of, lookup, values_of}
use Rattle.std.specs.Map.Iter.{deref}
use Rattle.std.proofs.lemmas.List.Sorted.{IsPermutation-map, IsPermutation-sym}
use Rattle.std.proofs.lemmas.Map.Keys.{IsDistinct-from_sorted}
use Rattle.std.proofs.lemmas.Map.Text.{is_eq-slice_cmp}
use Rattle.std.proofs.lemmas.Slice.Eq.{bytes_eq-Decides}
use Rattle.gr_value.proofs.Moved.{moved_distinct, moved_found}
use Rattle.gr_history.specs.declared.record.ShardRecord.{ShardRecord}
use Rattle.gr_stamp.specs.declared.change.Change.{Change}
use Rattle.gr_report.specs.Rows.{ByKey, with_row, by_key, rows_of, AreInOrder}

total : IsTotalOrder (slice_cmp nat_cmp)
total = lists_total nat_cmp_total

-- ---- a key behind all others is put last

below_next : (low key : List ℕ) (keys behind : List (List ℕ))
    → AllByRecursion (λ other. slice_cmp nat_cmp low other ≡ Less) (keys ++ key ∷ behind) → slice_cmp nat_cmp key low ≡ Greater
below_next low key [] behind below = total.antisymm key low ∙ ap ordering_reverse below.0
below_next low key (other ∷ keys) behind below = below_next low key keys behind below.1

put_last : {A : Type 0} → (rows : ByKey A) (key : List ℕ) (row : A) (behind : List (List ℕ))
    → IsStrictlySortedBy (slice_cmp nat_cmp) (keys_of rows ++ key ∷ behind)
    → insert_entry (slice_cmp nat_cmp) rows key row ≡ rows ++ (key, row) ∷ []
unfolding IsStrictlySortedBy
put_last [] key row behind sorted = refl
put_last (entry ∷ rows) key row behind sorted =
    ap (λ o. match_ordering o ((key, row) ∷ entry ∷ rows) ((entry.0, row) ∷ rows) (entry ∷ insert_entry (slice_cmp nat_cmp) rows key row))
    (below_next entry.0 key (keys_of rows) behind sorted.0)
    ∙ ap (λ rest. entry ∷ rest) (put_last rows key row behind sorted.1)

one_more : {A : Type 0} → (rows : ByKey A) (key : List ℕ) (row : A) (behind : List (List ℕ))
    → keys_of rows ++ key ∷ behind ≡ keys_of (rows ++ (key, row) ∷ []) ++ behind
one_more [] key row behind = refl
one_more (entry ∷ rows) key row behind = ap (λ keys. entry.0 ∷ keys) (one_more rows key row behind)

-- ---- rows in order

abbrev with_keys : {A : Type 0} → (A → List ℕ) → List A → ByKey A
with_keys key rows = map (λ row. (key row, row)) rows

put_behind : {A : Type 0} → (key : A → List ℕ) (before : ByKey A) (rows : List A)
    → IsStrictlySortedBy (slice_cmp nat_cmp) (keys_of before ++ map key rows)
    → fold (with_row key) before rows ≡ before ++ with_keys key rows
put_behind key before [] sorted = sym (append-nil before)
put_behind key before (row ∷ rows) sorted =
    ap (λ first. fold (with_row key) first rows) (put_last before (key row) row (map key rows) sorted)
    ∙ put_behind key (before ++ (key row, row) ∷ []) rows
    (subst (IsStrictlySortedBy (slice_cmp nat_cmp)) (one_more before (key row) row (map key rows)) sorted)
    ∙ append_assoc before ((key row, row) ∷ []) (with_keys key rows)

without_keys : {A : Type 0} → (key : A → List ℕ) (rows : List A) → values_of (with_keys key rows) ≡ rows
without_keys key [] = refl
without_keys key (row ∷ rows) = ap (λ rest. row ∷ rest) (without_keys key rows)

-- ---- rows in any order, of keys that differ

abbrev is_key : List ℕ → List ℕ → Bool
is_key key = is_at (slice_cmp nat_cmp key)

same_key : (one two : List ℕ) → is_key one two ≡ true → one ≡ two
same_key one two is = (bytes_eq-Decides one two).0 (sym (is_eq-slice_cmp one two) ∙ is)

abbrev either : {A : Type 0} → Option A → Option A → Option A
either None other = other
either (Some one) other = Some one

module _ {A : Type 0} (key : A → List ℕ) where
  -- with rows, one after the other
  gathered : FinMap (slice_cmp nat_cmp) A → List A → FinMap (slice_cmp nat_cmp) A
  gathered m [] = m
  gathered m (row ∷ rows) = gathered (insert m (key row) row) rows

  put_is : (k : List ℕ) (row : A) (es : ByKey A) → put (slice_cmp nat_cmp) k row es ≡ insert_entry (slice_cmp nat_cmp) es k row
  put_is k row [] = refl
  put_is k row (e ∷ es) = at_order (slice_cmp nat_cmp k e.0) (put_is k row es)
    where
      at_order : (o : Ordering) → put (slice_cmp nat_cmp) k row es ≡ insert_entry (slice_cmp nat_cmp) es k row
          → by_order o ((k, row) ∷ e ∷ es) ((e.0, row) ∷ es) (e ∷ put (slice_cmp nat_cmp) k row es)
          ≡ match_ordering o ((k, row) ∷ e ∷ es) ((e.0, row) ∷ es) (e ∷ insert_entry (slice_cmp nat_cmp) es k row)
      at_order Less rest = refl
      at_order Equal rest = refl
      at_order Greater rest = ap (λ rest. e ∷ rest) rest

  entries_gathered : (m : FinMap (slice_cmp nat_cmp) A) (rows : List A)
      → entries (gathered m rows) ≡ fold (with_row key) (entries m) rows
  unfolding gathered
  entries_gathered m [] = refl
  entries_gathered m (row ∷ rows) =
      entries_gathered (insert m (key row) row) rows
      ∙ ap (λ es. fold (with_row key) es rows) (entries-insert total m (key row) row ∙ put_is (key row) row (entries m))

  found_is : (q : List ℕ) (es : ByKey A) → find (slice_cmp nat_cmp) q es ≡ lookup (is_key q) es
  found_is q [] = refl
  found_is q (e ∷ es) = ap (λ rest. if is_key q e.0 then Some e.1 else rest) (found_is q es)

  none_found : (q : List ℕ) (rows : List A) → AllByRecursion (λ other. is_key q other ≡ false) (map key rows)
      → lookup (is_key q) (with_keys key rows) ≡ None
  none_found q [] all = refl
  none_found q (row ∷ rows) all =
      ap (λ b. if b then Some row else lookup (is_key q) (with_keys key rows)) all.0 ∙ none_found q rows all.1

  got : (m : FinMap (slice_cmp nat_cmp) A) (rows : List A) (q : List ℕ) → IsDistinct is_key (map key rows)
      → get (gathered m rows) q ≡ either (lookup (is_key q) (with_keys key rows)) (get m q)
  unfolding IsDistinct gathered
  got m [] q distinct = refl
  got m (row ∷ rows) q distinct =
      got (insert m (key row) row) rows q distinct.1
      ∙ ap (either (lookup (is_key q) (with_keys key rows))) (get-insert total m (key row) row q)
      ∙ at_key (is_key q (key row)) refl
    where
      at_key : (b : Bool) → is_key q (key row) ≡ b
          → either (lookup (is_key q) (with_keys key rows)) (if b then Some row else get m q)
          ≡ either (if b then Some row else lookup (is_key q) (with_keys key rows)) (get m q)
      at_key true k =
          let none : lookup (is_key q) (with_keys key rows) ≡ None =
          subst (λ other. lookup (is_key other) (with_keys key rows) ≡ None) (sym (same_key q (key row) k))
          (none_found (key row) rows distinct.0) in
          ap (λ o. either o (Some row)) none
      at_key false k = refl

  keys_with : (rows : List A) → keys_of (with_keys key rows) ≡ map key rows
  keys_with [] = refl
  keys_with (row ∷ rows) = ap (λ rest. key row ∷ rest) (keys_with rows)

  none : entries (empty {X = A} {R = slice_cmp nat_cmp}) ≡ []
  none = of_none (entries (empty {X = A} {R = slice_cmp nat_cmp}))
      (sym (len-entries (empty {X = A} {R = slice_cmp nat_cmp})) ∙ len-empty (slice_cmp nat_cmp) A)
    where
      of_none : (es : ByKey A) → length es ≡ 0 → es ≡ []
      of_none [] is = refl
      of_none (e ∷ es) is = absurd (omega (arith, is))

  -- Sorted, they are gathered as they stand.
  sorted_rows : (rows sorted : List A) → IsPermutation rows sorted → IsStrictlySortedBy (slice_cmp nat_cmp) (map key sorted)
      → sorted ≡ values_of (by_key key rows)
  sorted_rows rows sorted moved ascend =
      sym (ap values_of (sym (entries_gathered empty rows ∙ ap (λ es. fold (with_row key) es rows) none)
      ∙ ap entries same_maps
      ∙ entries_gathered empty sorted ∙ ap (λ es. fold (with_row key) es sorted) none
      ∙ put_behind key [] sorted ascend)
      ∙ without_keys key sorted)
    where
      back : IsPermutation (with_keys key sorted) (with_keys key rows)
      back = IsPermutation-map (λ row. (key row, row)) sorted rows (IsPermutation-sym rows sorted moved)

      distinct : IsDistinct is_key (map key sorted)
      distinct = IsDistinct-from_sorted (slice_cmp nat_cmp) (map key sorted) ascend

      distinct_with : IsDistinct is_key (keys_of (with_keys key sorted))
      distinct_with = subst (IsDistinct is_key) (sym (keys_with sorted)) distinct

      distinct_rows : IsDistinct is_key (map key rows)
      distinct_rows = subst (IsDistinct is_key) (keys_with rows)
          (moved_distinct is_key (eq_by_cmp_equiv total) same_key (with_keys key sorted) (with_keys key rows) back distinct_with)

      same_maps : gathered empty rows ≡ gathered empty sorted
      same_maps = same_map total (slice_cmp-IsAntisymmetric nat_cmp-IsAntisymmetric) (gathered empty rows) (gathered empty sorted)
          (λ q. got empty rows q distinct_rows
          ∙ ap (λ o. either o (get {R = slice_cmp nat_cmp} empty q)) (moved_found is_key (eq_by_cmp_equiv total) same_key (with_keys key sorted)
          (with_keys key rows) back distinct_with q)
          ∙ sym (got empty sorted q distinct))

-- The rows of all shards, sorted.
pub rows_sorted : (shards : List ShardRecord) (rows sorted : List Change) → rows ≡ flat_map (λ shard. shard.region.rows) shards
    → IsPermutation rows sorted → AreInOrder sorted → sorted ≡ rows_of shards
rows_sorted shards rows sorted is moved ascend =
    sorted_rows (λ row. row.key) rows sorted moved ascend
    ∙ ap (λ rows. values_of (by_key (λ row. row.key) rows)) is

-- ---- neighbours in order

below_all : (low first : List ℕ) (keys : List (List ℕ)) → slice_cmp nat_cmp low first ≡ Less
    → AllByRecursion (λ other. slice_cmp nat_cmp first other ≡ Less) keys
    → AllByRecursion (λ other. slice_cmp nat_cmp low other ≡ Less) keys
below_all low first [] less all = tt
below_all low first (next ∷ keys) less all = (total.trans low first next less all.0, below_all low first keys less all.1)

pub by_neighbours : (rows : List (Bor Change))
    → ((place : ℕ) (d : Bor Change) → place + 1 < length rows
    → slice_cmp nat_cmp (slice_index_or rows place d).now.key (slice_index_or rows (place + 1) d).now.key ≡ Less)
    → AreInOrder (map deref rows)
unfolding IsStrictlySortedBy
by_neighbours [] less = tt
by_neighbours (one ∷ []) less = (tt, tt)
by_neighbours (one ∷ two ∷ rows) less =
    let first = less 0 one (omega arith) in
    let next : (place : ℕ) → suc place + 1 ≡ suc (place + 1) = λ place. omega arith in
    let rest = by_neighbours (two ∷ rows) (λ place d within.
    subst (λ at. slice_cmp nat_cmp (slice_index_or (two ∷ rows) place d).now.key (slice_index_or (one ∷ two ∷ rows) at d).now.key ≡ Less)
    (next place) (less (suc place) d (omega (arith, within)))) in
    ((first, below_all one.now.key two.now.key (map (λ row. row.key) (map deref rows)) first rest.0), rest)
