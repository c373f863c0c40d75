-- A row that comes in among ordered rows.
use Rattle.std.proofs.Common.{◌≡◌, ◌≢◌, ◌∙◌, ap, sym, refl, ℕ, zero, suc, List, [], ◌∷◌, ◌++◌, map, Some, None, Bool, true, false}
use Rattle.std.specs.Prelude.{take, drop}
use Rattle.std.specs.Ordering.{nat_cmp, is_eq, match_ordering}
use Rattle.std.specs.Cmp.Lexicographic.{slice_cmp}
use Rattle.std.specs.declared.cmp.Ordering.{Ordering}
use Rattle.std.specs.declared.cmp.Ordering.TheVariants.{Less, Equal, Greater}
use Rattle.std.specs.List.{insert, slice_get, take-map, drop-map}
use Rattle.std.proofs.lemmas.List.{map-append}
use Rattle.std.specs.BTreeMap.{is_at}
use Rattle.std.proofs.lemmas.Map.Entries.{lookup_head, lookup_tail}
use Rattle.gr_slots.specs.declared.slot.Slot.{Slot}
use Rattle.gr_slots.specs.Slots.{Entries, slot_at, with_slot}

-- the rows before a place, and the row put in among those from there on
abbrev pub merged_at : List ℕ → Slot → Entries → ℕ → Entries
merged_at key slot es i = take i es ++ with_slot key slot (drop i es)

module _ (key : List ℕ) (slot : Slot) where
  absent_head : (e : List ℕ × Slot) (es : Entries) → slot_at key (e ∷ es) ≡ None → is_at (slice_cmp nat_cmp key) e.0 ≡ false
  absent_head e es none = at_test (is_at (slice_cmp nat_cmp key) e.0) refl
    where
      at_test : (b : Bool) → is_at (slice_cmp nat_cmp key) e.0 ≡ b → b ≡ false
      at_test true k = absurd (let f : Some e.1 ≡ None = sym (lookup_head (is_at (slice_cmp nat_cmp key)) e es k) ∙ none in cc)
      at_test false k = refl

  absent_tail : (e : List ℕ × Slot) (es : Entries) → slot_at key (e ∷ es) ≡ None → slot_at key es ≡ None
  absent_tail e es none = sym (lookup_tail (is_at (slice_cmp nat_cmp key)) e es (absent_head e es none)) ∙ none

  -- a row that isn't behind the key is passed
  pub passed : (es : Entries) (i : ℕ) (e : List ℕ × Slot) → slice_get es i ≡ Some e → slot_at key es ≡ None
      → slice_cmp nat_cmp key e.0 ≢ Less → merged_at key slot es i ≡ merged_at key slot es (suc i)
  passed [] i e is none after = absurd cc
  passed (f ∷ es) zero e is none after = at_order (slice_cmp nat_cmp key f.0) refl
    where
      at_order : (o : Ordering) → slice_cmp nat_cmp key f.0 ≡ o
          → match_ordering o ((key, slot) ∷ f ∷ es) ((f.0, slot) ∷ es) (f ∷ with_slot key slot es) ≡ f ∷ with_slot key slot es
      at_order Less less =
          let same : f ≡ e = cc in absurd (after (ap (λ (row : List ℕ × Slot). slice_cmp nat_cmp key row.0) (sym same) ∙ less))
      at_order Equal equal = absurd (let t : false ≡ true = sym (absent_head f es none) ∙ ap is_eq equal in cc)
      at_order Greater greater = refl
  passed (f ∷ es) (suc i) e is none after = ap (λ rest. f ∷ rest) (passed es i e is (absent_tail f es none) after)

  -- before a row that is behind the key it comes in
  pub placed : (es : Entries) (i : ℕ) (e : List ℕ × Slot) → slice_get es i ≡ Some e → slice_cmp nat_cmp key e.0 ≡ Less
      → merged_at key slot es i ≡ take i es ++ (key, slot) ∷ drop i es
  placed [] i e is less = absurd cc
  placed (f ∷ es) zero e is less =
      let same : f ≡ e = cc in
      ap (λ o. match_ordering o ((key, slot) ∷ f ∷ es) ((f.0, slot) ∷ es) (f ∷ with_slot key slot es))
      (ap (λ (row : List ℕ × Slot). slice_cmp nat_cmp key row.0) same ∙ less)
  placed (f ∷ es) (suc i) e is less = ap (λ rest. f ∷ rest) (placed es i e is less)

-- what is read of each, where one is put in at a place
pub read-insert : {X Y : Type 0} (f : X → Y) (xs : List X) (i : ℕ) (x : X)
    → map f (insert xs i x) ≡ take i (map f xs) ++ f x ∷ drop i (map f xs)
read-insert f xs i x =
    map-append f (take i xs) (x ∷ drop i xs) ∙ ap (λ front. front ++ f x ∷ map f (drop i xs)) (sym (take-map f i xs))
    ∙ ap (λ back. take i (map f xs) ++ f x ∷ back) (sym (drop-map f i xs))
