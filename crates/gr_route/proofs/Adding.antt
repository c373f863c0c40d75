-- One more of a list that is gone along.
use Rattle.std.proofs.Common.{◌≡◌, ◌∙◌, ℕ, suc, ◌+◌, ◌-◌, ◌<◌, ◌≤◌, List, [], ◌∷◌, ◌++◌, Bool, true, false, not, nat_lt, cond, refl, sym, ap, map, take, drop, length, reverse, fold, arith, get_or}
use Rattle.std.specs.Prelude.{Some, None, filter, flat_map}
use Rattle.std.specs.List.{position, position_or_len}
use Rattle.std.specs.BTreeSet.{insert_key}
use Rattle.std.specs.FinMap as finite
use Rattle.std.specs.Ordering.{nat_cmp, match_ordering}
use Rattle.std.specs.Cmp.Lexicographic.{slice_cmp}
use Rattle.std.proofs.Math.Seq.{drop-cons, drop-length}
use Rattle.std.proofs.lemmas.Bool.Decides.{nat_tests}
use Rattle.std.proofs.lemmas.List.{take_more, map-append, reverse-append, flat_map_more}
use Rattle.std.proofs.lemmas.List.Elements.{filter-append}
use Rattle.std.proofs.lemmas.List.Sums.{prefix_len-le-length}
use Rattle.gr_stamp.specs.declared.change.Change.{Change}
use Rattle.gr_history.specs.declared.deed.Deed.{Deed}
use Rattle.gr_history.specs.Regions.{with_key}
use Rattle.gr_route.specs.Openings.{opened_by, openings_from}
use Rattle.gr_route.specs.Turning.{Changes, winners, with_keys, with_won}

fold_last : {A B : Type 0} → (f : B → A → B) (start : B) (xs : List A) (x : A) → fold f start (xs ++ x ∷ []) ≡ f (fold f start xs) x
fold_last f start [] x = refl
fold_last f start (first ∷ xs) x = fold_last f (f start first) xs x

pub fold_more : {A B : Type 0} → (f : B → A → B) (start : B) (xs : List A) (i : ℕ) (d : A) → i < length xs
    → fold f start (take (i + 1) xs) ≡ f (fold f start (take i xs)) (get_or xs i d)
fold_more f start xs i d lt = ap (fold f start) (take_more xs i d lt) ∙ fold_last f start (take i xs) (get_or xs i d)

-- ---- keys that are put into a set

pub inserted : (keys : List (List ℕ)) (key : List ℕ) → insert_key (slice_cmp nat_cmp) keys key ≡ with_key key keys
inserted [] key = refl
inserted (first ∷ keys) key =
    ap (λ rest. match_ordering (slice_cmp nat_cmp key first) (key ∷ first ∷ keys) (first ∷ keys) (first ∷ rest)) (inserted keys key)

pub key_added : (start keys : List (List ℕ)) (i : ℕ) (d : List ℕ) → i < length keys
    → insert_key (slice_cmp nat_cmp) (with_keys start (take i keys)) (get_or keys i d) ≡ with_keys start (take (i + 1) keys)
key_added start keys i d lt =
    inserted (with_keys start (take i keys)) (get_or keys i d) ∙ sym (fold_more (λ keys key. with_key key keys) start keys i d lt)

pub changed_added : (start : List (List ℕ)) (changes : List Change) (i : ℕ) (d : Change) → i < length changes
    → insert_key (slice_cmp nat_cmp) (with_keys start (map (λ change. change.key) (take i changes))) (get_or changes i d).key
    ≡ with_keys start (map (λ change. change.key) (take (i + 1) changes))
changed_added start changes i d lt =
    inserted (with_keys start before) (get_or changes i d).key
    ∙ sym (fold_last (λ keys key. with_key key keys) start before (get_or changes i d).key)
    ∙ sym (ap (with_keys start) (ap (map (λ change. change.key)) (take_more changes i d lt)
    ∙ map-append (λ change. change.key) (take i changes) (get_or changes i d ∷ [])))
  where
    before : List (List ℕ)
    before = map (λ change. change.key) (take i changes)

-- ---- what passes

pub kept_more : {A : Type 0} → (f : List ℕ → A) (p : List ℕ → Bool) (keys : List (List ℕ)) (key : List ℕ)
    → map f (filter p (keys ++ key ∷ [])) ≡ map f (filter p keys) ++ map f (filter p (key ∷ []))
kept_more f p keys key = ap (map f) (filter-append p keys (key ∷ [])) ∙ map-append f (filter p keys) (filter p (key ∷ []))

pub told_more : {A B : Type 0} → (f : A → List B) (xs : List A) (i : ℕ) (d : A) → i < length xs
    → flat_map f (take (i + 1) xs) ≡ flat_map f (take i xs) ++ f (get_or xs i d)
told_more f xs i d lt = ap (flat_map f) (take_more xs i d lt) ∙ sym (flat_map_more f [] (take i xs) (get_or xs i d))

-- ---- changes from the last to the first

pub winners_none : (changes : Changes) (came : List Change) → finite.empty ≡ winners changes (drop (length came - 0) came)
winners_none changes came =
    let all : length came - 0 ≡ length came = omega arith in
    sym (ap (λ n. winners changes (drop n came)) all ∙ ap (winners changes) (drop-length came))

pub winners_more : (changes : Changes) (came : List Change) (n : ℕ) (d : Change) → n < length came
    → with_won changes (get_or came (length came - 1 - n) d) (winners changes (drop (length came - n) came))
    ≡ winners changes (drop (length came - (n + 1)) came)
winners_more changes came n d lt =
    ap (λ at. with_won changes (get_or came (length came - 1 - n) d) (winners changes (drop at came))) next
    ∙ sym (ap (winners changes) (drop-cons came (length came - 1 - n) d (omega (arith, lt))))
    ∙ ap (λ at. winners changes (drop at came)) before
  where
    next : length came - n ≡ suc (length came - 1 - n)
    next = omega (arith, lt)

    before : length came - 1 - n ≡ length came - (n + 1)
    before = omega (arith, lt)

-- ---- the newest deed first

pub newest : {A : Type 0} → (xs : List A) (i : ℕ) (d : A) → i < length xs → reverse (take (i + 1) xs) ≡ get_or xs i d ∷ reverse (take i xs)
newest xs i d lt = ap reverse (take_more xs i d lt) ∙ reverse-append (take i xs) (get_or xs i d ∷ [])

-- ---- where the first stands that passes

pub found_first : {A : Type 0} → (p : A → Bool) (xs : List A) (n : ℕ) → position p xs ≡ Some n → n ≡ position_or_len p xs
found_first p xs n is = at_test (nat_lt (position_or_len p xs) (length xs)) is
  where
    at_test : (b : Bool) → cond b (Some (position_or_len p xs)) None ≡ Some n → n ≡ position_or_len p xs
    at_test true e = cc
    at_test false e = absurd cc

pub found_none : {A : Type 0} → (p : A → Bool) (xs : List A) → position p xs ≡ None → length xs ≡ position_or_len p xs
found_none p xs is = at_test (nat_lt (position_or_len p xs) (length xs)) refl is
  where
    at_test : (b : Bool) → nat_lt (position_or_len p xs) (length xs) ≡ b → cond b (Some (position_or_len p xs)) None ≡ None
        → length xs ≡ position_or_len p xs
    at_test true e is = absurd cc
    at_test false e is =
        let low : length xs ≤ position_or_len p xs = grind (arith, nat_tests) in
        omega (arith, low, prefix_len-le-length (λ x. not (p x)) xs)

-- ---- openings

pub open_more : (history deeds : List Deed) (place : ℕ) (d : Deed) → place < length deeds
    → openings_from history place (drop place deeds)
    ≡ opened_by history place (get_or deeds place d) (drop (place + 1) deeds) ++ openings_from history (place + 1) (drop (place + 1) deeds)
open_more history deeds place d lt =
    let next : suc place ≡ place + 1 = omega arith in
    ap (openings_from history place) (drop-cons deeds place d lt)
    ∙ ap (λ at. opened_by history place (get_or deeds place d) (drop at deeds) ++ openings_from history at (drop at deeds)) next

pub open_none : (history deeds : List Deed) (place : ℕ) → place ≡ length deeds → openings_from history place (drop place deeds) ≡ []
open_none history deeds place is =
    ap (λ at. openings_from history place (drop at deeds)) is ∙ ap (openings_from history place) (drop-length deeds)
