-- Lists of keys in order: those with the same keys are equal.
use Rattle.std.proofs.Common.{◌≡◌, ◌⊎◌, ℕ, List, [], ◌∷◌, Bool, true, refl, sym, ap, ◌∙◌, subst, inl, inr, Ordering, Less, Equal, Greater}
use Rattle.std.specs.Prelude.{filter}
use Rattle.std.specs.Ordering.{nat_cmp, match_ordering, ordering_reverse}
use Rattle.std.specs.Cmp.Lexicographic.{slice_cmp}
use Rattle.std.specs.List.{AllByRecursion}
use Rattle.std.specs.List.Sorted.{IsStrictlySortedBy}
use Rattle.std.proofs.lemmas.Cmp.{nat_list_cmp_total, tied_itself}
use Rattle.std.proofs.lemmas.List.Kept.{IsStrictlySortedBy-filter}
use Rattle.gr_stamp.specs.declared.change.Change.{Change}
use Rattle.gr_history.specs.Regions.{keys_of, with_key}
use Rattle.gr_law.specs.Grids.{Among}
use Rattle.gr_law.proofs.Lists.{among_filter, filter_keeps}
use Rattle.gr_law.proofs.Winners.{all_among}
use Rattle.gr_law.proofs.Images.{cmp_same}

abbrev pub order : List ℕ → List ℕ → Ordering
order = slice_cmp nat_cmp

abbrev pub IsInOrder : List (List ℕ) → Type 0
IsInOrder keys = IsStrictlySortedBy order keys

abbrev pub AreBehind : List ℕ → List (List ℕ) → Type 0
AreBehind key keys = AllByRecursion (λ other. order key other ≡ Less) keys

pub not_less_itself : (key : List ℕ) → order key key ≡ Less → ⊥
not_less_itself key h = let e : order key key ≡ Equal = tied_itself nat_list_cmp_total key in cc

pub not_equal_less : (one two : List ℕ) → one ≡ two → order one two ≡ Less → ⊥
not_equal_less one two same h = not_less_itself two (subst (λ k. order k two ≡ Less) same h)

greater_less : (one two : List ℕ) → order one two ≡ Greater → order two one ≡ Less
greater_less one two h = nat_list_cmp_total.antisymm two one ∙ ap ordering_reverse h

less_twice : (one two : List ℕ) → order one two ≡ Less → order two one ≡ Less → ⊥
less_twice one two h k = not_less_itself one (nat_list_cmp_total.trans one two one h k)

behind_all : (key first : List ℕ) (keys : List (List ℕ)) → order key first ≡ Less → AreBehind first keys → AreBehind key keys
behind_all key first [] less behind = tt
behind_all key first (next ∷ keys) less behind = (
  nat_list_cmp_total.trans key first next less behind.0,
  behind_all key first keys less
      behind.1,
)

behind_with_key : (low key : List ℕ) (keys : List (List ℕ)) → order low key ≡ Less → AreBehind low keys → AreBehind low (with_key key
    keys)
behind_with_key low key [] less behind = (less, tt)
behind_with_key low key (first ∷ keys) less behind = at_order (order key first) (behind_with_key low key keys less behind.1)
  where
    at_order : (o : Ordering) → AreBehind low (with_key key keys)
        → AreBehind low (match_ordering o (key ∷ first ∷ keys) (first ∷ keys) (first ∷ with_key key keys))
    at_order Less next = (less, behind)
    at_order Equal next = behind
    at_order Greater next = (behind.0, next)

pub in_order_with_key : (key : List ℕ) (keys : List (List ℕ)) → IsInOrder keys → IsInOrder (with_key key keys)
unfolding IsStrictlySortedBy
in_order_with_key key [] h = (tt, tt)
in_order_with_key key (first ∷ keys) h = at_order (order key first) refl (in_order_with_key key keys h.1)
  where
    at_order : (o : Ordering) → order key first ≡ o → IsInOrder (with_key key keys)
        → IsInOrder (match_ordering o (key ∷ first ∷ keys) (first ∷ keys) (first ∷ with_key key keys))
    at_order Less e next = ((e, behind_all key first keys e h.0), h)
    at_order Equal e next = h
    at_order Greater e next = (behind_with_key first key keys (greater_less key first e) h.0, next)

-- the keys of changes are in order
pub in_order_keys : (all : List Change) → IsInOrder (keys_of all)
unfolding IsStrictlySortedBy
in_order_keys [] = tt
in_order_keys (change ∷ past) = in_order_with_key change.key (keys_of past) (in_order_keys past)

abbrev Within : List (List ℕ) → List (List ℕ) → Type 0
Within xs ys = (key : List ℕ) → Among key xs → Among key ys

-- what is behind a key isn't that key
behind_not : (key other : List ℕ) (keys : List (List ℕ)) → AreBehind key keys → Among other keys → order key other ≡ Less
behind_not key other keys behind a = all_among (λ k. order key k ≡ Less) other keys behind a

tail_within : (first : List ℕ) (xs ys : List (List ℕ)) → AreBehind first xs → Within (first ∷ xs) (first ∷ ys) → Within xs ys
tail_within first xs ys behind within key a = at_place (within key (inr a))
  where
    at_place : (key ≡ first) ⊎ Among key ys → Among key ys
    at_place (inl is) = absurd (not_equal_less first key (sym is) (behind_not first key xs behind a))
    at_place (inr b) = b

first_behind : (x y : List ℕ) (ys : List (List ℕ)) → AreBehind y ys → Among x (y ∷ ys) → order x y ≡ Less → ⊥
first_behind x y ys behind (inl is) less = not_equal_less x y is less
first_behind x y ys behind (inr a) less = less_twice x y less (behind_not y x ys behind a)

pub same_keys : (xs ys : List (List ℕ)) → IsInOrder xs → IsInOrder ys → Within xs ys → Within ys xs → xs ≡ ys
unfolding IsStrictlySortedBy
same_keys [] [] p q there back = refl
same_keys [] (y ∷ ys) p q there back = absurd (back y (inl refl))
same_keys (x ∷ xs) [] p q there back = absurd (there x (inl refl))
same_keys (x ∷ xs) (y ∷ ys) p q there back = at_order (order x y) refl (same_keys xs ys p.1 q.1)
  where
    at_order : (o : Ordering) → order x y ≡ o → (Within xs ys → Within ys xs → xs ≡ ys) → x ∷ xs ≡ y ∷ ys
    at_order Less e next = absurd (first_behind x y ys q.0 (there x (inl refl)) e)
    at_order Greater e next = absurd (first_behind y x xs p.0 (back y (inl refl)) (greater_less x y e))
    at_order Equal e next =
        let same : x ≡ y = cmp_same x y e in
        let there' : Within (y ∷ xs) (y ∷ ys) = subst (λ k. Within (k ∷ xs) (y ∷ ys)) same there in
        let back' : Within (y ∷ ys) (y ∷ xs) = subst (λ k. Within (y ∷ ys) (k ∷ xs)) same back in
        let behind : AreBehind y xs = subst (λ k. AreBehind k xs) same p.0 in
        let tails : xs ≡ ys = next (tail_within y xs ys behind there') (tail_within y ys xs q.0 back') in
        ap (λ k. k ∷ xs) same ∙ ap (λ ks. y ∷ ks) tails

-- of two lists in order each of which has all keys that pass, the same keys pass
pub same_filtered : (p : List ℕ → Bool) (xs ys : List (List ℕ)) → IsInOrder xs → IsInOrder ys
    → ((key : List ℕ) → p key ≡ true → Among key xs) → ((key : List ℕ) → p key ≡ true → Among key ys) → filter p xs ≡ filter p ys
same_filtered p xs ys in_xs in_ys all_xs all_ys =
    same_keys (filter p xs) (filter p ys) (IsStrictlySortedBy-filter order p xs in_xs) (IsStrictlySortedBy-filter order p ys in_ys)
    (λ key a. filter_keeps p key ys (among_filter p key xs a).1 (all_ys key (among_filter p key xs a).1))
    (λ key a. filter_keeps p key xs (among_filter p key ys a).1 (all_xs key (among_filter p key ys a).1))
