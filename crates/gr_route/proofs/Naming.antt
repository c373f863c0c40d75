-- Whether a set of keys has one of those that were put into it.
use Rattle.std.proofs.Common.{◌≡◌, ◌∙◌, ℕ, List, [], ◌∷◌, Bool, true, false, ◌||◌, refl, sym, ap, bytes_eq, map, Ordering, Less, Equal, Greater}
use Rattle.std.specs.List.{list_any}
use Rattle.std.specs.BTreeMap.{is_at}
use Rattle.std.specs.Ordering.{nat_cmp, match_ordering}
use Rattle.std.specs.Cmp.Lexicographic.{slice_cmp}
use Rattle.std.proofs.lemmas.Map.Text.{is_eq-slice_cmp}
use Rattle.gr_stamp.specs.declared.change.Change.{Change}
use Rattle.gr_history.specs.Regions.{with_key}
use Rattle.gr_history.specs.Standing.{has_key, names}
use Rattle.gr_law.proofs.Images.{cmp_same}
use Rattle.gr_route.specs.Turning.{with_keys}
use Rattle.gr_route.proofs.Winning.{bytes_swapped}

abbrev has : List ℕ → List (List ℕ) → Bool
has key keys = list_any (is_at (slice_cmp nat_cmp key)) keys

or_nothing : (a : Bool) → (a || false) ≡ a
or_nothing true = refl
or_nothing false = refl

or_twice : (a b : Bool) → (a || b) ≡ (a || (a || b))
or_twice true b = refl
or_twice false b = refl

or_inside : (a b c : Bool) → (a || (b || c)) ≡ (b || (a || c))
or_inside true true c = refl
or_inside true false c = refl
or_inside false true c = refl
or_inside false false c = refl

or_assoc : (a b c : Bool) → (a || (b || c)) ≡ ((b || a) || c)
or_assoc true true c = refl
or_assoc true false c = refl
or_assoc false true c = refl
or_assoc false false c = refl

here : (key first : List ℕ) → is_at (slice_cmp nat_cmp key) first ≡ bytes_eq first key
here key first = is_eq-slice_cmp key first ∙ bytes_swapped key first

with_key_has : (key more : List ℕ) (keys : List (List ℕ)) → has key (with_key more keys) ≡ (bytes_eq more key || has key keys)
with_key_has key more [] = ap (λ b. b || false) (here key more)
with_key_has key more (first ∷ keys) = at_order (slice_cmp nat_cmp more first) refl (with_key_has key more keys)
  where
    is_first : Bool
    is_first = is_at (slice_cmp nat_cmp key) first

    at_order : (o : Ordering) → slice_cmp nat_cmp more first ≡ o → has key (with_key more keys) ≡ (bytes_eq more key || has key keys)
        → has key (match_ordering o (more ∷ first ∷ keys) (first ∷ keys) (first ∷ with_key more keys)) ≡ (bytes_eq more key || has key (first ∷ keys))
    at_order Less e next = ap (λ b. b || has key (first ∷ keys)) (here key more)
    at_order Equal e next =
        or_twice is_first (has key keys)
        ∙ ap (λ b. b || has key (first ∷ keys)) (sym (ap (is_at (slice_cmp nat_cmp key)) (cmp_same more first e)) ∙ here key more)
    at_order Greater e next = ap (λ b. is_first || b) next ∙ or_inside is_first (bytes_eq more key) (has key keys)

with_keys_has : (key : List ℕ) (more keys : List (List ℕ)) → has key (with_keys keys more) ≡ (names key more || has key keys)
with_keys_has key [] keys = refl
with_keys_has key (first ∷ more) keys =
    with_keys_has key more (with_key first keys) ∙ ap (λ b. names key more || b) (with_key_has key first keys)
    ∙ or_assoc (names key more) (bytes_eq first key) (has key keys)

pub named_has : (key : List ℕ) (keys : List (List ℕ)) → list_any (is_at (slice_cmp nat_cmp key)) (with_keys [] keys) ≡ names key keys
named_has key keys = with_keys_has key keys [] ∙ or_nothing (names key keys)

pub row_named : (key : List ℕ) (rows : List Change) → names key (map (λ change. change.key) rows) ≡ has_key key rows
row_named key [] = refl
row_named key (row ∷ rows) = ap (λ b. bytes_eq row.key key || b) (row_named key rows)
