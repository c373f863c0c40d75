-- The rows of an image are in the order of their keys, each key once.
use Rattle.std.proofs.Common.{◌≡◌, ℕ, List, [], ◌∷◌, refl, sym, ap, ◌∙◌, subst}
use Rattle.std.proofs.Common.{map, Less}
use Rattle.std.specs.Prelude.{Option, Some, None}
use Rattle.gr_stamp.specs.declared.change.Change.{Change}
use Rattle.gr_history.specs.declared.deed.Deed.{Deed}
use Rattle.gr_history.specs.Lawful.{AreInOrder}
use Rattle.gr_history.specs.Regions.{all_standing, keys_of, with_key}
use Rattle.gr_history.specs.Standing.{changes, standing}
use Rattle.gr_law.proofs.Keys.{AreBehind, IsInOrder, in_order_keys, order}
use Rattle.gr_law.proofs.Steps.{standing_best}
use Rattle.std.specs.List.{filter_map}
use Rattle.std.specs.List.Sorted.{IsStrictlySortedBy}
use Rattle.std.proofs.lemmas.Slice.Eq.{bytes_eq-Decides}

abbrev keys_in : List Change → List (List ℕ)
keys_in rows = map (λ row. row.key) rows

rows_behind : (f : List ℕ → Option Change) → ((key : List ℕ) (row : Change) → f key ≡ Some row → row.key ≡ key)
    → (a : List ℕ) (keys : List (List ℕ)) → AreBehind a keys → AreBehind a (keys_in (filter_map f keys))
rows_behind f of_key a [] h = tt
rows_behind f of_key a (first ∷ rest) h = at_value (f first) refl (rows_behind f of_key a rest h.1)
  where
    at_value : (o : Option Change) → f first ≡ o → AreBehind a (keys_in (filter_map f rest))
        → AreBehind a (keys_in (filter_map f (first ∷ rest)))
    at_value None e next = rw e next
    at_value (Some row) e next = rw e (subst (λ k. order a k ≡ Less) (sym (of_key first row e)) h.0, next)

rows_in_order : (f : List ℕ → Option Change) → ((key : List ℕ) (row : Change) → f key ≡ Some row → row.key ≡ key)
    → (keys : List (List ℕ)) → IsInOrder keys → IsInOrder (keys_in (filter_map f keys))
unfolding IsStrictlySortedBy
rows_in_order f of_key [] h = tt
rows_in_order f of_key (first ∷ rest) h = at_value (f first) refl (rows_in_order f of_key rest h.1)
  where
    at_value : (o : Option Change) → f first ≡ o → IsInOrder (keys_in (filter_map f rest))
        → IsInOrder (keys_in (filter_map f (first ∷ rest)))
    at_value None e next = rw e next
    at_value (Some row) e next =
        rw e (subst (λ k. AreBehind k (keys_in (filter_map f rest))) (sym (of_key first row e)) (rows_behind f of_key first rest h.0), next)

first_of_behind : (key : List ℕ) (keys : List (List ℕ)) → AreBehind key keys → with_key key keys ≡ key ∷ keys
first_of_behind key [] h = refl
first_of_behind key (first ∷ rest) h = rw h.0 refl

-- rows in the order of their keys are in order as their keys are listed
listed_in_order : (rows : List Change) → IsInOrder (keys_in rows) → AreInOrder rows
unfolding IsStrictlySortedBy
listed_in_order [] h = refl
listed_in_order (row ∷ rest) h =
    sym (ap (with_key row.key) (sym (listed_in_order rest h.1)) ∙ first_of_behind row.key (keys_in rest) h.0)

pub standing_in_order : (past : List Deed) → AreInOrder (all_standing past)
standing_in_order past =
    listed_in_order (all_standing past)
    (rows_in_order (λ key. standing key past) (λ key row e. (bytes_eq-Decides row.key key).0 (standing_best key past row e).of_key)
    (keys_of (changes past)) (in_order_keys (changes past)))
