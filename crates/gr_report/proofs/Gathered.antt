-- Rows that are lent are gathered as what they show.
use Rattle.std.proofs.Common.{◌≡◌, ap, refl, ℕ, List, [], ◌∷◌, map}
use Rattle.std.specs.Borrow.{Bor}
use Rattle.std.specs.declared.cmp.Ordering.{Ordering}
use Rattle.std.specs.declared.cmp.Ordering.TheVariants.{Less, Equal, Greater}
use Rattle.std.specs.Ordering.{nat_cmp, match_ordering}
use Rattle.std.specs.Cmp.Lexicographic.{slice_cmp}
use Rattle.std.specs.BTreeMap.{insert_entry}
use Rattle.std.specs.Map.{values_of}
use Rattle.gr_report.specs.Shown.{shown}

pub shown-insert : {A : Type 0} → (rows : List (List ℕ × Bor A)) (key : List ℕ) (row : Bor A)
    → shown (insert_entry (slice_cmp nat_cmp) rows key row) ≡ insert_entry (slice_cmp nat_cmp) (shown rows) key row.now
shown-insert [] key row = refl
shown-insert {A = A} (entry ∷ rows) key row = at_order (slice_cmp nat_cmp key entry.0) (shown-insert rows key row)
  where
    insert : List (List ℕ × Bor A)
    insert = insert_entry (slice_cmp nat_cmp) rows key row

    at_order : (o : Ordering) → shown insert ≡ insert_entry (slice_cmp nat_cmp) (shown rows) key row.now
        → shown (match_ordering o ((key, row) ∷ entry ∷ rows) ((entry.0, row) ∷ rows) (entry ∷ insert))
        ≡ match_ordering o ((key, row.now) ∷ (entry.0, entry.1.now) ∷ shown rows) ((entry.0, row.now) ∷ shown rows)
        ((entry.0, entry.1.now) ∷ insert_entry (slice_cmp nat_cmp) (shown rows) key row.now)
    at_order Less rest = refl
    at_order Equal rest = refl
    at_order Greater rest = ap (λ rest. (entry.0, entry.1.now) ∷ rest) rest

pub values-shown : {A : Type 0} → (rows : List (List ℕ × Bor A)) → values_of (shown rows) ≡ map (λ row. row.now) (values_of rows)
values-shown [] = refl
values-shown (entry ∷ rows) = ap (λ rest. entry.1.now ∷ rest) (values-shown rows)

pub map-twice : {A B C : Type 0} → (f : B → C) (g : A → B) (xs : List A) → map (λ x. f (g x)) xs ≡ map f (map g xs)
map-twice f g [] = refl
map-twice f g (x ∷ xs) = ap (λ rest. f (g x) ∷ rest) (map-twice f g xs)
