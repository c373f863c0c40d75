-- Ids in order: what a list with one more has, and that two lists with the same ids are one.
use Rattle.std.proofs.Common.{◌≡◌, ℕ, List, [], ◌∷◌, Bool, true, false, ◌||◌, refl, sym, ap, ◌∙◌, subst, arith, if◌then◌else◌}
use Rattle.std.proofs.lemmas.Bool.Decides.{nat_tests}
use Rattle.gr_vector.specs.Ids.{Id, has_id, is_same_id}
use Rattle.gr_vector.specs.Order.{is_before, with_id, united, AllAfter, IsSorted}

abbrev named : ℕ → ℕ → Id
named member rv = record { member = member; rv = rv }

pub same_id_itself : (id : Id) → is_same_id id id ≡ true
same_id_itself id = grind (arith, nat_tests)

pub same_id_same : (one two : Id) → is_same_id one two ≡ true → one ≡ two
same_id_same one two h =
    let m : one.member ≡ two.member = grind (arith, nat_tests) in
    let r : one.rv ≡ two.rv = grind (arith, nat_tests) in
    same one.member two.member one.rv two.rv m r
  where
    same : (a b c d : ℕ) → a ≡ b → c ≡ d → named a c ≡ named b d
    same a b c d e f = cc

pub has_with : (x id : Id) (xs : List Id) → has_id x (with_id id xs) ≡ (is_same_id id x || has_id x xs)
has_with x id [] = refl
has_with x id (first ∷ rest) = at_test (is_same_id first id) refl (is_before id first) (has_with x id rest)
  where
    absorbed : (a b : Bool) → (a || b) ≡ (a || (a || b))
    absorbed a b = grind arith

    swapped : (a b c : Bool) → (a || (b || c)) ≡ (b || (a || c))
    swapped a b c = grind arith

    at_test : (a : Bool) → is_same_id first id ≡ a → (b : Bool) → has_id x (with_id id rest) ≡ (is_same_id id x || has_id x rest)
        → has_id x (if a then first ∷ rest else if b then id ∷ first ∷ rest else first ∷ with_id id rest)
        ≡ (is_same_id id x || has_id x (first ∷ rest))
    at_test true e b next = subst (λ z. (is_same_id first x || has_id x rest)
        ≡ (is_same_id z x || (is_same_id first x || has_id x rest))) (same_id_same first id e)
        (absorbed (is_same_id first x) (has_id x rest))
    at_test false e true next = refl
    at_test false e false next = ap (λ b. is_same_id first x || b) next ∙ swapped (is_same_id first x) (is_same_id id x) (has_id x rest)

pub has_united : (x : Id) (xs ys : List Id) → has_id x (united xs ys) ≡ (has_id x xs || has_id x ys)
has_united x xs [] = none (has_id x xs)
  where
    none : (a : Bool) → a ≡ (a || false)
    none a = grind arith
has_united x xs (id ∷ rest) = has_with x id (united xs rest) ∙ ap (λ b. is_same_id id x || b) (has_united x xs rest)
    ∙ swap (is_same_id id x) (has_id x xs) (has_id x rest)
  where
    swap : (a b c : Bool) → (a || (b || c)) ≡ (b || (a || c))
    swap a b c = grind arith

before_trans : (a b c : Id) → is_before a b ≡ true → is_before b c ≡ true → is_before a c ≡ true
before_trans a b c h k = grind (arith, nat_tests)

pub after_trans : (a b : Id) (xs : List Id) → is_before a b ≡ true → AllAfter b xs → AllAfter a xs
after_trans a b [] h all = tt
after_trans a b (first ∷ rest) h all = (before_trans a b first h all.0, after_trans a b rest h all.1)

not_before : (a b : Id) → is_same_id b a ≡ false → is_before a b ≡ false → is_before b a ≡ true
not_before a b h k = grind (arith, nat_tests)

after_with : (a id : Id) (xs : List Id) → is_before a id ≡ true → AllAfter a xs → AllAfter a (with_id id xs)
after_with a id [] h all = (h, tt)
after_with a id (first ∷ rest) h all = at_test (is_same_id first id) (is_before id first) (after_with a id rest h all.1)
  where
    at_test : (same sooner : Bool) → AllAfter a (with_id id rest)
        → AllAfter a (if same then first ∷ rest else if sooner then id ∷ first ∷ rest else first ∷ with_id id rest)
    at_test true sooner next = all
    at_test false true next = (h, all)
    at_test false false next = (all.0, next)

pub with_sorted : (id : Id) (xs : List Id) → IsSorted xs → IsSorted (with_id id xs)
with_sorted id [] h = (tt, tt)
with_sorted id (first ∷ rest) h = at_test (is_same_id first id) refl (is_before id first) refl (with_sorted id rest h.1)
  where
    at_test : (same : Bool) → is_same_id first id ≡ same → (sooner : Bool) → is_before id first ≡ sooner → IsSorted (with_id id rest)
        → IsSorted (if same then first ∷ rest else if sooner then id ∷ first ∷ rest else first ∷ with_id id rest)
    at_test true e sooner f next = h
    at_test false e true f next = ((f, after_trans id first rest f h.0), h)
    at_test false e false f next = (after_with first id rest (not_before id first e f) h.0, next)

pub united_sorted : (xs ys : List Id) → IsSorted xs → IsSorted (united xs ys)
united_sorted xs [] h = h
united_sorted xs (id ∷ rest) h = with_sorted id (united xs rest) (united_sorted xs rest h)

no : true ≡ false → ⊥
no e = cc

not_there : (a : Id) (xs : List Id) → AllAfter a xs → has_id a xs ≡ false
not_there a [] all = refl
not_there a (first ∷ rest) all = rw (apart a first all.0) (not_there a rest all.1)
  where
    apart : (a b : Id) → is_before a b ≡ true → is_same_id b a ≡ false
    apart a b h = grind (arith, nat_tests)

-- where each of two lists in order has the other's first, the two firsts are one
one_first : (a b : Id) (xs ys : List Id) → AllAfter a xs → AllAfter b ys
    → has_id a (b ∷ ys) ≡ true → has_id b (a ∷ xs) ≡ true → a ≡ b
one_first a b xs ys after_a after_b there here = at_test (is_same_id b a) refl
  where
    found : (x : Id) (zs : List Id) (c : Id) → AllAfter c zs → has_id x zs ≡ true → is_before c x ≡ true
    found x [] c all h = absurd (no (sym h))
    found x (first ∷ rest) c all h = at_first (is_same_id first x) refl h (found x rest c all.1)
      where
        at_first : (b : Bool) → is_same_id first x ≡ b → (b || has_id x rest) ≡ true → (has_id x rest ≡ true → is_before c x ≡ true)
            → is_before c x ≡ true
        at_first true e h next = subst (λ z. is_before c z ≡ true) (same_id_same first x e) all.0
        at_first false e h next = next h

    circle : is_before a b ≡ true → is_before b a ≡ true → ⊥
    circle h k = grind (arith, nat_tests)

    at_test : (same : Bool) → is_same_id b a ≡ same → a ≡ b
    at_test true e = sym (same_id_same b a e)
    at_test false e = absurd (circle (found b xs a after_a (in_rest (is_same_id a b) (has_id b xs) (other a b e) here))
        (found a ys b after_b (in_rest (is_same_id b a) (has_id a ys) e there)))
      where
        other : (a b : Id) → is_same_id b a ≡ false → is_same_id a b ≡ false
        other a b h = grind (arith, nat_tests)

        in_rest : (a b : Bool) → a ≡ false → (a || b) ≡ true → b ≡ true
        in_rest a b e h = grind arith

has_first : (a : Id) (xs : List Id) → has_id a (a ∷ xs) ≡ true
has_first a xs = rw (same_id_itself a) refl

-- Two vectors in order that hold the same ids are one.
pub one_vector : (xs ys : List Id) → IsSorted xs → IsSorted ys → ((id : Id) → has_id id xs ≡ has_id id ys) → xs ≡ ys
one_vector [] [] h k same = refl
one_vector [] (first ∷ ys) h k same = absurd (no (sym (has_first first ys) ∙ sym (same first)))
one_vector (first ∷ xs) [] h k same = absurd (no (sym (has_first first xs) ∙ same first))
one_vector (a ∷ xs) (b ∷ ys) h k same =
    ap (λ id. id ∷ xs) first ∙ ap (λ rest. b ∷ rest) (one_vector xs ys h.1 k.1 (λ id. in_rest id (is_same_id a id) refl))
  where
    first : a ≡ b
    first = one_first a b xs ys h.0 k.0 (sym (same a) ∙ has_first a xs) (same b ∙ has_first b ys)

    in_rest : (id : Id) (here : Bool) → is_same_id a id ≡ here → has_id id xs ≡ has_id id ys
    in_rest id true e = subst (λ z. has_id z xs ≡ has_id z ys) (same_id_same a id e)
        (not_there a xs h.0 ∙ sym (not_there a ys (subst (λ z. AllAfter z ys) (sym first) k.0)))
    in_rest id false e = rests (is_same_id a id) (has_id id xs) (has_id id ys) e
        (same id ∙ ap (λ z. is_same_id z id || has_id id ys) (sym first))
      where
        rests : (a b c : Bool) → a ≡ false → (a || b) ≡ (a || c) → b ≡ c
        rests a b c e h = grind arith
