-- Lists of ids and of changes.
use Rattle.std.proofs.Common.{zero, suc, ◌≡◌, ◌⊎◌, ℕ, ◌≤◌, ◌<◌, List, [], ◌∷◌, ◌++◌, Bool, true, false, ◌&&◌, ◌||◌, refl, sym, ap}
use Rattle.std.proofs.Common.{◌∙◌, inl, inr, ⊎_elim, arith, bytes_eq, if◌then◌else◌, reverse, subst}
use Rattle.std.specs.Prelude.{filter}
use Rattle.std.proofs.lemmas.Grind.{reverse_onto}
use Rattle.std.proofs.lemmas.Slice.Eq.{bytes_eq-Decides}
use Rattle.gr_stamp.specs.declared.change.Change.{Change}
use Rattle.gr_vector.specs.Ids.{Id, has_id, is_same_id, covers}
use Rattle.gr_history.specs.Ids.{id_of, ids, known}
use Rattle.gr_history.specs.Standing.{names}
use Rattle.gr_law.specs.Grids.{Among}
use Rattle.gr_history.specs.declared.deed.Deed.{Deed}
use Rattle.gr_vector.proofs.Order.{has_united}

-- splits on a test
pub either : (b : Bool) → (b ≡ true) ⊎ (b ≡ false)
either true = inl refl
either false = inr refl

pub and_left : (a b : Bool) → (a && b) ≡ true → a ≡ true
and_left a b h = grind arith

pub and_right : (a b : Bool) → (a && b) ≡ true → b ≡ true
and_right a b h = grind arith

pub cases_le : (a b : ℕ) → (a ≤ b) ⊎ (b < a)
cases_le a b = grind arith

pub among_left : {A : Type 0} → (x : A) (xs ys : List A) → Among x xs → Among x (xs ++ ys)
among_left x [] ys h = absurd h
among_left x (first ∷ rest) ys (inl is) = inl is
among_left x (first ∷ rest) ys (inr h) = inr (among_left x rest ys h)

pub among_right : {A : Type 0} → (x : A) (xs ys : List A) → Among x ys → Among x (xs ++ ys)
among_right x [] ys h = h
among_right x (first ∷ rest) ys h = inr (among_right x rest ys h)

pub among_either : {A : Type 0} → (x : A) (xs ys : List A) → Among x (xs ++ ys) → Among x xs ⊎ Among x ys
among_either x [] ys h = inr h
among_either x (first ∷ rest) ys (inl is) = inl (inl is)
among_either x (first ∷ rest) ys (inr h) = ⊎_elim (λ a. inl (inr a)) (λ a. inr a) (among_either x rest ys h)

pub among_reverse : {A : Type 0} → (x : A) (xs : List A) → Among x (reverse xs) → Among x xs
among_reverse x [] a = a
among_reverse x (first ∷ rest) a =
    at (among_reverse x rest) (among_either x (reverse rest) (first ∷ []) (subst (Among x) (reverse_onto rest first []) a))
  where
    at : (Among x (reverse rest) → Among x rest) → Among x (reverse rest) ⊎ Among x (first ∷ []) → Among x (first ∷ rest)
    at next (inl a) = inr (next a)
    at next (inr (inl is)) = inl is
    at next (inr (inr a)) = absurd a

-- an element that a filter kept
kept_at : {A : Type 0} → (p : A → Bool) (x first : A) (rest : List A) (b : Bool) → p first ≡ b
    → (Among x (filter p rest) → Among x rest × (p x ≡ true))
    → Among x (if b then first ∷ filter p rest else filter p rest) → Among x (first ∷ rest) × (p x ≡ true)
kept_at p x first rest true e next (inl is) = (inl is, ap p is ∙ e)
kept_at p x first rest true e next (inr h) = (inr (next h).0, (next h).1)
kept_at p x first rest false e next h = (inr (next h).0, (next h).1)

pub among_filter : {A : Type 0} → (p : A → Bool) (x : A) (xs : List A) → Among x (filter p xs) → Among x xs × (p x ≡ true)
among_filter p x [] h = absurd h
among_filter p x (first ∷ rest) h = kept_at p x first rest (p first) refl (among_filter p x rest) h

keeps_at : {A : Type 0} → (p : A → Bool) (x first : A) (rest : List A) (b : Bool) → p first ≡ b
    → p x ≡ true → (Among x rest → Among x (filter p rest)) → Among x (first ∷ rest)
    → Among x (if b then first ∷ filter p rest else filter p rest)
keeps_at p x first rest true e is next (inl same) = inl same
keeps_at p x first rest true e is next (inr h) = inr (next h)
keeps_at p x first rest false e is next (inl same) = absurd (true_isnt_false (sym is ∙ ap p same ∙ e))
  where
    true_isnt_false : true ≡ false → ⊥
    true_isnt_false h = cc
keeps_at p x first rest false e is next (inr h) = next h

pub filter_keeps : {A : Type 0} → (p : A → Bool) (x : A) (xs : List A) → p x ≡ true → Among x xs → Among x (filter p xs)
filter_keeps p x [] is h = absurd h
filter_keeps p x (first ∷ rest) is h = keeps_at p x first rest (p first) refl is (filter_keeps p x rest is) h

pub has_id-append : (id : Id) (xs ys : List Id) → has_id id (xs ++ ys) ≡ (has_id id xs || has_id id ys)
has_id-append id [] ys = refl
has_id-append id (first ∷ rest) ys = rw (has_id-append id rest ys) (or_assoc (is_same_id first id) (has_id id rest) (has_id id ys))
  where
    or_assoc : (a b c : Bool) → (a || (b || c)) ≡ ((a || b) || c)
    or_assoc true b c = refl
    or_assoc false b c = refl

pub has_left : (id : Id) (xs ys : List Id) → has_id id xs ≡ true → has_id id (xs ++ ys) ≡ true
has_left id xs ys h = rw (has_id-append id xs ys, h) refl

pub has_right : (id : Id) (xs ys : List Id) → has_id id ys ≡ true → has_id id (xs ++ ys) ≡ true
has_right id xs ys h = let e : has_id id (xs ++ ys) ≡ (has_id id xs || has_id id ys) = has_id-append id xs ys in grind arith

pub has_either : (id : Id) (xs ys : List Id) → has_id id (xs ++ ys) ≡ true → (has_id id xs ≡ true) ⊎ (has_id id ys ≡ true)
has_either id xs ys h = let e : has_id id (xs ++ ys) ≡ (has_id id xs || has_id id ys) = has_id-append id xs ys in grind arith

-- the id of these numbers
abbrev named : ℕ → ℕ → Id
named member rv = record { member = member; rv = rv }

pub one_name : (one two : Change) → one.stamp.member ≡ two.stamp.member → one.stamp.rv ≡ two.stamp.rv → id_of one ≡ id_of two
one_name one two e f = same one.stamp.member two.stamp.member one.stamp.rv two.stamp.rv e f
  where
    same : (a b c d : ℕ) → a ≡ b → c ≡ d → named a c ≡ named b d
    same a b c d e f = cc

pub covers-has : (member upto : ℕ) (ids : List Id) → covers member upto ids ≡ true → (rv : ℕ) → 1 ≤ rv → rv ≤ upto
    → has_id (record { member = member; rv = rv }) ids ≡ true
covers-has member zero ids h rv from to = absurd (omega arith)
covers-has member (suc n) ids h rv from to = at_last (covers-has member n ids) (cases_le rv n)
  where
    at_last : (covers member n ids ≡ true → (rv : ℕ) → 1 ≤ rv → rv ≤ n → has_id (record { member = member; rv = rv }) ids ≡ true)
        → (rv ≤ n) ⊎ (n < rv) → has_id (record { member = member; rv = rv }) ids ≡ true
    at_last next (inl le) = next (and_right _ _ h) rv from le
    at_last next (inr lt) = let e : rv ≡ suc n = omega arith in rw e (and_left _ _ h)

pub names-filter : (p : List ℕ → Bool) (key : List ℕ) (xs : List (List ℕ)) → names key (filter p xs) ≡ true → p key ≡ true
names-filter p key [] h = absurd (no h)
  where
    no : false ≡ true → ⊥
    no e = cc
names-filter p key (first ∷ rest) h = at_first (p first) refl (names-filter p key rest) h
  where
    at_name : (bytes_eq first key ≡ true) ⊎ (bytes_eq first key ≡ false) → p first ≡ true
        → (names key (filter p rest) ≡ true → p key ≡ true) → names key (first ∷ filter p rest) ≡ true → p key ≡ true
    at_name (inl is) e next h = ap p (sym ((bytes_eq-Decides first key).0 is)) ∙ e
    at_name (inr is) e next h = next (rw is at h)

    at_first : (b : Bool) → p first ≡ b → (names key (filter p rest) ≡ true → p key ≡ true)
        → names key (if b then first ∷ filter p rest else filter p rest) ≡ true → p key ≡ true
    at_first true e next h = at_name (either (bytes_eq first key)) e next h
    at_first false e next h = next h

-- a vector of all that is known has just the ids of the history
pub known_ids : (vector : List Id) (past : List Deed) → vector ≡ known past → (id : Id) → has_id id vector ≡ has_id id (ids past)
known_ids vector past e id = ap (has_id id) e ∙ has_united id [] (ids past)
