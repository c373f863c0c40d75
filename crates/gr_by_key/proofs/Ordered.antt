-- Entries that stand in order are those of their finite map.
use Rattle.std.proofs.Common.{◌≡◌, ℕ, List, [], ◌∷◌, refl, sym, ap, ◌∙◌, map, length, arith}
use Rattle.std.specs.Ordering.{nat_cmp}
use Rattle.std.specs.Cmp.Lexicographic.{slice_cmp}
use Rattle.std.specs.List.Sorted.{IsStrictlySortedBy}
use Rattle.std.specs.Map.{keys_of}
use Rattle.std.specs.FinMap as finite
use Rattle.std.proofs.lemmas.Cmp.{nat_list_cmp_total}
use Rattle.gr_by_key.specs.Maps.{names_in}

no_items : {A : Type 0} → (xs : List A) → length xs ≡ 0 → xs ≡ []
no_items [] e = refl
no_items (x ∷ xs) e = absurd (omega (arith, e))

module _ {V : Type 0} where
  pub entries_empty : finite.entries (finite.empty {X = V} {R = slice_cmp nat_cmp}) ≡ []
  entries_empty = no_items _ (sym (finite.len-entries (finite.empty {X = V} {R = slice_cmp nat_cmp})) ∙ finite.len-empty (slice_cmp nat_cmp) V)

  put_first : (entry : List ℕ × V) (es : List (List ℕ × V)) → IsStrictlySortedBy (slice_cmp nat_cmp) (entry.0 ∷ keys_of es)
      → finite.put (slice_cmp nat_cmp) entry.0 entry.1 es ≡ entry ∷ es
  unfolding IsStrictlySortedBy
  put_first entry [] sorted = refl
  put_first entry (next ∷ es) sorted = rw (sorted.0.0) refl

  pub entries_in_order : (es : List (List ℕ × V)) → IsStrictlySortedBy (slice_cmp nat_cmp) (keys_of es)
      → finite.entries (finite.from_entries {R = slice_cmp nat_cmp} es) ≡ es
  unfolding IsStrictlySortedBy
  entries_in_order [] sorted = entries_empty
  entries_in_order (entry ∷ es) sorted =
      finite.entries-insert nat_list_cmp_total (finite.from_entries es) entry.0 entry.1
      ∙ ap (finite.put (slice_cmp nat_cmp) entry.0 entry.1) (entries_in_order es sorted.1)
      ∙ put_first entry es sorted

  pub names_in_order : (es : List (List ℕ × V)) → IsStrictlySortedBy (slice_cmp nat_cmp) (keys_of es)
      → names_in (finite.from_entries {R = slice_cmp nat_cmp} es) ≡ keys_of es
  names_in_order es sorted = ap (map (λ entry. entry.0)) (entries_in_order es sorted)
