-- Lists of rows, read as maps.
use Rattle.std.proofs.Common.{◌≡◌, ℕ, List, [], ◌∷◌, ◌++◌, Bool, true, false, ◌&&◌, T, refl, sym, ap, ◌∙◌, subst, map, bytes_eq, if◌then◌else◌, Less}
use Rattle.std.specs.Prelude.{Option, Some, None, filter}
use Rattle.std.specs.Ordering.{nat_cmp, is_lt}
use Rattle.std.proofs.Common.{Ordering, Equal, Greater}
use Rattle.std.specs.Cmp.Lexicographic.{slice_cmp}
use Rattle.std.specs.List.{AllByRecursion}
use Rattle.std.specs.List.Sorted.{IsStrictlySortedBy}
use Rattle.std.specs.Map.{keys_of}
use Rattle.std.specs.FinMap as finite
use Rattle.std.specs.FinMap.Entries.{below_all}
use Rattle.std.proofs.lemmas.Cmp.{nat_list_cmp_total}
use Rattle.std.proofs.lemmas.List.Kept.{IsStrictlySortedBy-filter}
use Rattle.std.proofs.lemmas.Slice.Eq.{bytes_eq-Decides}
use Rattle.gr_value.specs.declared.value.Field.{Field}
use Rattle.gr_history.specs.declared.query_reply.Row.{Row}
use Rattle.gr_history.specs.Queries.{row_of}
use Rattle.gr_law.specs.Queries.{found}
use Rattle.gr_law.specs.QueryMaps.{Rows, entry_of, map_of}
use Rattle.gr_law.proofs.AsMaps.{get_rows}
use Rattle.gr_by_key.proofs.Ordered.{entries_in_order}
use Rattle.gr_durable.specs.Tables.{in_order, list_of}

pub map_twice : {A B C : Type 0} → (f : B → C) (g : A → B) (xs : List A) → map (λ x. f (g x)) xs ≡ map f (map g xs)
map_twice f g [] = refl
map_twice f g (x ∷ xs) = ap (λ rest. f (g x) ∷ rest) (map_twice f g xs)

abbrev pub row_keys : List Row → List (List ℕ)
row_keys rows = map (λ row. row.key) rows

abbrev pub AreSorted : List Row → Type 0
AreSorted rows = IsStrictlySortedBy (slice_cmp nat_cmp) (row_keys rows)

-- ---- a list of rows and its map

pub get_map : (rows : List Row) (key : List ℕ) → finite.get (map_of rows) key ≡ found rows key
get_map rows key = finite.get-from_entries nat_list_cmp_total (map entry_of rows) key ∙ get_rows rows key

entries_back : (es : List (List ℕ × List Field)) → map entry_of (map (λ entry. row_of entry.0 entry.1) es) ≡ es
entries_back [] = refl
entries_back (entry ∷ es) = ap (λ rest. entry ∷ rest) (entries_back es)

rows_back : (rows : List Row) → map (λ entry. row_of entry.0 entry.1) (map entry_of rows) ≡ rows
rows_back [] = refl
rows_back (row ∷ rows) = ap (λ rest. row ∷ rest) (rows_back rows)

-- what a map has at a key is found in its list
pub found_list : (rows : Rows) (key : List ℕ) → found (list_of rows) key ≡ finite.get rows key
found_list rows key =
    sym (get_rows (list_of rows) key)
    ∙ ap (finite.find (slice_cmp nat_cmp) key) (entries_back (finite.entries rows))
    ∙ sym (finite.get-entries rows key)

pub found_in_order : (rows : List Row) (key : List ℕ) → found (in_order rows) key ≡ found rows key
found_in_order rows key = found_list (map_of rows) key ∙ get_map rows key

-- ---- order

clash : true ≡ false → ⊥
clash e = cc

both_hold : (a b : Bool) → T (a && b) → T a × T b
both_hold true b h = (tt, h)
both_hold false b h = absurd h

less : (o : Ordering) → T (is_lt o) → o ≡ Less
less Less h = refl
less Equal h = absurd h
less Greater h = absurd h

all_behind : {V : Type 0} → (key : List ℕ) (es : List (List ℕ × V)) → T (below_all (slice_cmp nat_cmp) key es)
    → AllByRecursion (λ other. slice_cmp nat_cmp key other ≡ Less) (keys_of es)
all_behind key [] h = tt
all_behind key (entry ∷ es) h =
    let both = both_hold _ _ h in
    (less (slice_cmp nat_cmp key entry.0) both.0, all_behind key es both.1)

sorted_keys : {V : Type 0} → (es : List (List ℕ × V)) → T (finite.is_sorted (slice_cmp nat_cmp) es)
    → IsStrictlySortedBy (slice_cmp nat_cmp) (keys_of es)
unfolding IsStrictlySortedBy
sorted_keys [] h = tt
sorted_keys (entry ∷ es) h =
    let both = both_hold _ _ h in
    (all_behind entry.0 es both.0, sorted_keys es both.1)

pub list_sorted : (rows : Rows) → AreSorted (list_of rows)
list_sorted rows =
    subst (IsStrictlySortedBy (slice_cmp nat_cmp)) (map_twice (λ row. row.key) (λ entry. row_of entry.0 entry.1) (finite.entries rows))
    (sorted_keys (finite.entries rows) (finite.entries_sorted rows))

-- rows in order are told by what is found at each key
pub same_rows : (xs ys : List Row) → AreSorted xs → AreSorted ys → ((key : List ℕ) → found xs key ≡ found ys key) → xs ≡ ys
same_rows xs ys x y same =
    sym (rows_back xs)
    ∙ ap (map (λ entry. row_of entry.0 entry.1))
    (sym (in_place xs x) ∙ ap finite.entries one_map ∙ in_place ys y)
    ∙ rows_back ys
  where
    in_place : (rows : List Row) → AreSorted rows → finite.entries (map_of rows) ≡ map entry_of rows
    in_place rows sorted =
        entries_in_order (map entry_of rows)
        (subst (IsStrictlySortedBy (slice_cmp nat_cmp)) (map_twice (λ entry. entry.0) entry_of rows) sorted)

    one_map : map_of xs ≡ map_of ys
    one_map =
        finite.same_map nat_list_cmp_total (finite.slice_cmp-IsAntisymmetric finite.nat_cmp-IsAntisymmetric) (map_of xs) (map_of ys)
        (λ key. get_map xs key ∙ same key ∙ sym (get_map ys key))

-- ---- rows of some keys

keys_kept : (p : List ℕ → Bool) (rows : List Row) → row_keys (filter (λ row. p row.key) rows) ≡ filter p (row_keys rows)
keys_kept p [] = refl
keys_kept p (row ∷ rows) = at_test (p row.key) (keys_kept p rows)
  where
    at_test : (b : Bool) → row_keys (filter (λ row. p row.key) rows) ≡ filter p (row_keys rows)
        → row_keys (if b then row ∷ filter (λ row. p row.key) rows else filter (λ row. p row.key) rows)
        ≡ (if b then row.key ∷ filter p (row_keys rows) else filter p (row_keys rows))
    at_test true next = ap (λ rest. row.key ∷ rest) next
    at_test false next = next

pub kept_sorted : (p : List ℕ → Bool) (rows : List Row) → AreSorted rows → AreSorted (filter (λ row. p row.key) rows)
kept_sorted p rows sorted =
    subst (IsStrictlySortedBy (slice_cmp nat_cmp)) (sym (keys_kept p rows))
    (IsStrictlySortedBy-filter (slice_cmp nat_cmp) p (row_keys rows) sorted)

pub found_kept : (p : List ℕ → Bool) (rows : List Row) (key : List ℕ)
    → found (filter (λ row. p row.key) rows) key ≡ (if p key then found rows key else None)
found_kept p [] key = at_none (p key)
  where
    at_none : (b : Bool) → found [] key ≡ (if b then found [] key else None)
    at_none true = refl
    at_none false = refl
found_kept p (row ∷ rows) key = at_tests (p row.key) (bytes_eq row.key key) (p key) refl refl refl (found_kept p rows key)
  where
    rest : List Row
    rest = filter (λ row. p row.key) rows

    at_tests : (b t k : Bool) → p row.key ≡ b → bytes_eq row.key key ≡ t → p key ≡ k
        → found rest key ≡ (if p key then found rows key else None)
        → found (if b then row ∷ rest else rest) key ≡ (if k then (if t then Some row.value else found rows key) else None)
    at_tests true true true e f g next = rw f refl
    at_tests true true false e f g next = absurd (clash (sym e ∙ ap p ((bytes_eq-Decides row.key key).0 f) ∙ g))
    at_tests true false k e f g next =
        ap (λ t. if t then Some row.value else found rest key) f ∙ next ∙ ap (λ k. if k then found rows key else None) g
    at_tests false true true e f g next = absurd (clash (sym g ∙ sym (ap p ((bytes_eq-Decides row.key key).0 f)) ∙ e))
    at_tests false true false e f g next = next ∙ ap (λ k. if k then found rows key else None) g
    at_tests false false k e f g next = next ∙ ap (λ k. if k then found rows key else None) g

-- ---- one list behind another

abbrev pub first_of : {A : Type 0} → Option A → Option A → Option A
first_of (Some first) rest = Some first
first_of None rest = rest

pub found_append : (xs ys : List Row) (key : List ℕ) → found (xs ++ ys) key ≡ first_of (found xs key) (found ys key)
found_append [] ys key = refl
found_append (row ∷ xs) ys key = at_test (bytes_eq row.key key) (found_append xs ys key)
  where
    at_test : (t : Bool) → found (xs ++ ys) key ≡ first_of (found xs key) (found ys key)
        → (if t then Some row.value else found (xs ++ ys) key)
        ≡ first_of (if t then Some row.value else found xs key) (found ys key)
    at_test true next = refl
    at_test false next = next
