-- The rows of an image are what stands.
use Rattle.std.proofs.Common.{◌≡◌, ◌⊎◌, ℕ, List, [], ◌∷◌, ◌++◌, Bool, true, false, refl, sym, ap, ◌∙◌, subst, inl, inr, ⊎_elim, Ordering}
use Rattle.std.proofs.Common.{Less, Equal, Greater}
use Rattle.std.specs.Prelude.{Option, Some, None, if◌then◌else◌}
use Rattle.std.specs.List.{filter_map}
use Rattle.std.specs.Ordering.{nat_cmp, match_ordering, is_eq}
use Rattle.std.specs.Cmp.Lexicographic.{slice_cmp}
use Rattle.std.proofs.lemmas.Map.Text.{is_eq-slice_cmp}
use Rattle.std.proofs.lemmas.Slice.Eq.{bytes_eq-Decides}
use Rattle.gr_stamp.specs.declared.change.Change.{Change}
use Rattle.gr_history.specs.Regions.{keys_of, with_key}
use Rattle.gr_history.specs.declared.deed.Deed.{Deed}
use Rattle.gr_history.specs.Standing.{came, changes, drops, lasting, standing}
use Rattle.gr_history.specs.Regions.{all_standing}
use Rattle.gr_law.specs.Grids.{Among}
use Rattle.gr_law.proofs.Lists.{among_either, among_left, among_right}
use Rattle.gr_law.proofs.Steps.{standing_best}

pub among_filter_map : {A B : Type 0} → (f : A → Option B) (y : B) (xs : List A) → Among y (filter_map f xs) → (x : A) × Among x xs
    × (f x ≡ Some y)
among_filter_map f y [] a = absurd a
among_filter_map {A = A} {B = B} f y (first ∷ rest) a = at_value (f first) refl a (among_filter_map f y rest)
  where
    some_case : (c : B) → Among y (c ∷ filter_map f rest) → (y ≡ c) ⊎ Among y (filter_map f rest)
    some_case c a = a

    at_value : (o : Option B) → f first ≡ o → Among y (filter_map f (first ∷ rest))
        → (Among y (filter_map f rest) → (x : A) × Among x rest × (f x ≡ Some y)) → (x : A) × Among x (first ∷ rest) × (f x ≡ Some y)
    at_value None e a next = let n = next (rw e at a) in (n.0, inr n.1, n.2)
    at_value (Some c) e a next = ⊎_elim
        (λ is. (first, inl refl, e ∙ ap Some (sym is)))
        (λ there. let n = next there in (n.0, inr n.1, n.2))
        (some_case c (rw e at a))

pub filter_map_has : {A B : Type 0} → (f : A → Option B) (x : A) (y : B) (xs : List A) → Among x xs → f x ≡ Some y
    → Among y (filter_map f xs)
filter_map_has f x y [] a is = absurd a
filter_map_has f x y (first ∷ rest) (inl same) is = let e : f first ≡ Some y = ap f (sym same) ∙ is in rw e (inl refl)
filter_map_has {B = B} f x y (first ∷ rest) (inr a) is = at_value (f first) refl (filter_map_has f x y rest a is)
  where
    at_value : (o : Option B) → f first ≡ o → Among y (filter_map f rest) → Among y (filter_map f (first ∷ rest))
    at_value None e a = rw e a
    at_value (Some c) e a = rw e (inr a)

pub cmp_same : (xs ys : List ℕ) → slice_cmp nat_cmp xs ys ≡ Equal → xs ≡ ys
cmp_same xs ys e = (bytes_eq-Decides xs ys).0 (sym (is_eq-slice_cmp xs ys) ∙ ap is_eq e)

pub key_added : (key : List ℕ) (keys : List (List ℕ)) → Among key (with_key key keys)
key_added key [] = inl refl
key_added key (first ∷ keys) = at_order (slice_cmp nat_cmp key first) refl (key_added key keys)
  where
    at_order : (o : Ordering) → slice_cmp nat_cmp key first ≡ o → Among key (with_key key keys)
        → Among key (match_ordering o (key ∷ first ∷ keys) (first ∷ keys) (first ∷ with_key key keys))
    at_order Less e a = inl refl
    at_order Equal e a = inl (cmp_same key first e)
    at_order Greater e a = inr a

pub key_kept : (key other : List ℕ) (keys : List (List ℕ)) → Among key keys → Among key (with_key other keys)
key_kept key other [] a = absurd a
key_kept key other (first ∷ keys) a = at_order (slice_cmp nat_cmp other first) a (key_kept key other keys)
  where
    at_order : (o : Ordering) → Among key (first ∷ keys) → (Among key keys → Among key (with_key other keys))
        → Among key (match_ordering o (other ∷ first ∷ keys) (first ∷ keys) (first ∷ with_key other keys))
    at_order Less a next = inr a
    at_order Equal a next = a
    at_order Greater (inl is) next = inl is
    at_order Greater (inr a) next = inr (next a)

pub key_of_change : (change : Change) (all : List Change) → Among change all → Among change.key (keys_of all)
key_of_change change [] a = absurd a
key_of_change change (first ∷ rest) (inl is) =
    subst (λ c. Among c.key (keys_of (first ∷ rest))) (sym is) (key_added first.key (keys_of rest))
key_of_change change (first ∷ rest) (inr a) = key_kept change.key first.key (keys_of rest) (key_of_change change rest a)

pub lasting_came : (key : List ℕ) (past : List Deed) (change : Change) → Among change (lasting key past) → Among change (changes past)
lasting_came key [] change a = absurd a
lasting_came key (deed ∷ past) change a = at_drop (drops key deed (standing key past)) a (lasting_came key past change)
  where
    at_drop : (b : Bool) → Among change (if b then [] else came deed past ++ lasting key past)
        → (Among change (lasting key past) → Among change (changes past))
        → Among change (came deed past ++ changes past)
    at_drop true a next = absurd a
    at_drop false a next = ⊎_elim (λ x. among_left change (came deed past) (changes past) x)
        (λ y. among_right change (came deed past) (changes past) (next y))
        (among_either change (came deed past) (lasting key past) a)

pub row_stands : (past : List Deed) (rows : List Change) → rows ≡ all_standing past → (row : Change) → Among row rows
    → standing row.key past ≡ Some row
row_stands past rows e row a =
    let n = among_filter_map (λ key. standing key past) row (keys_of (changes past)) (subst (Among row) e a) in
    subst (λ k. standing k past ≡ Some row) (sym ((bytes_eq-Decides row.key n.0).0 (standing_best n.0 past row n.2).of_key)) n.2

pub stands_row : (past : List Deed) (rows : List Change) → rows ≡ all_standing past → (key : List ℕ) (row : Change)
    → standing key past ≡ Some row → Among row rows
stands_row past rows e key row is =
    let b = standing_best key past row is in
    let same = (bytes_eq-Decides row.key key).0 b.of_key in
    subst (Among row) (sym e) (filter_map_has (λ key. standing key past) key row (keys_of (changes past))
    (subst (λ k. Among k (keys_of (changes past))) same (key_of_change row (changes past) (lasting_came key past row b.among))) is)
