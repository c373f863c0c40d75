-- The greatest number of a member, what is covered, and how many runs are missing, by its ids.
use Rattle.std.proofs.Common.{◌≡◌, ◌⊎◌, ℕ, zero, suc, ◌+◌, ◌-◌, ◌<◌, ◌≤◌, List, [], ◌∷◌, get_or, length, Bool, true, false, not, ◌&&◌}
use Rattle.std.proofs.Common.{◌||◌, ◌==◌, ltb, leb, max, refl, sym, ◌∙◌, subst, ap, inl, inr, ⊎_elim, arith, if◌then◌else◌}
use Rattle.std.proofs.lemmas.Bool.Decides.{nat_tests}
use Rattle.std.proofs.lemmas.List.{get_or_default}
use Rattle.gr_vector.specs.Blocks.{Numbers, is_noted, holds, holds_upto, ends_upto}
use Rattle.gr_vector.specs.Ids.{Id, is_same_id, has_id, top, covers, gaps_upto, exceptions}
use Rattle.gr_vector.specs.Views.{ids_from, is_held}
use Rattle.gr_vector.proofs.Views.{has_ids}

pub has-top : (member rv : ℕ) (ids : List Id) → has_id (record { member = member; rv = rv }) ids ≡ true → rv ≤ top member ids
has-top member rv [] h = absurd (no h)
  where
    no : false ≡ true → ⊥
    no e = cc
has-top member rv (first ∷ rest) h = at_first (has_id (record { member = member; rv = rv }) rest) (top member rest)
    (has-top member rv rest) refl
  where
    at_first : (b : Bool) (t : ℕ) → (has_id (record { member = member; rv = rv }) rest ≡ true → rv ≤ t)
        → has_id (record { member = member; rv = rv }) rest ≡ b
        → rv ≤ (if first.member == member then max first.rv t else t)
    at_first b t next e = grind (arith, nat_tests, h)

-- the greatest number is there, or none is
pub top-has : (member : ℕ) (ids : List Id) → (top member ids ≡ 0) ⊎ (has_id (record { member = member; rv = top member ids }) ids ≡ true)
top-has member [] = inl refl
top-has member (first ∷ rest) = at_member (first.member == member) refl (top-has member rest)
  where
    or_right : (a b : Bool) → b ≡ true → (a || b) ≡ true
    or_right a b h = grind arith

    or_left : (a b : Bool) → a ≡ true → (a || b) ≡ true
    or_left a b h = grind arith

    at_greater : (t : ℕ) → (first.member == member) ≡ true → (t ≡ 0) ⊎ (has_id (record { member = member; rv = t }) rest ≡ true)
        → (max first.rv t ≡ t) ⊎ (max first.rv t ≡ first.rv)
        → (max first.rv t ≡ 0) ⊎ (has_id (record { member = member; rv = max first.rv t }) (first ∷ rest) ≡ true)
    at_greater t e (inl none) (inl is) = inl (is ∙ none)
    at_greater t e (inr has) (inl is) = inr (or_right (is_same_id first (record { member = member; rv = max first.rv t }))
        (has_id (record { member = member; rv = max first.rv t }) rest)
        (subst (λ k. has_id (record { member = member; rv = k }) rest ≡ true) (sym is) has))
    at_greater t e h (inr is) = inr (or_left (is_same_id first (record { member = member; rv = max first.rv t }))
        (has_id (record { member = member; rv = max first.rv t }) rest)
        (subst (λ k. is_same_id first (record { member = member; rv = k }) ≡ true) (sym is) same))
      where
        same : is_same_id first (record { member = member; rv = first.rv }) ≡ true
        same = grind (arith, nat_tests)

    at_member : (b : Bool) → (first.member == member) ≡ b → (top member rest ≡ 0)
        ⊎ (has_id (record { member = member; rv = top member rest }) rest ≡ true)
        → ((if b then max first.rv (top member rest) else top member rest) ≡ 0)
        ⊎ (has_id (record { member = member; rv = if b then max first.rv (top member rest) else top member rest }) (first ∷ rest) ≡ true)
    at_member true e h = at_greater (top member rest) e h (one_of first.rv (top member rest))
      where
        one_of : (a b : ℕ) → (max a b ≡ b) ⊎ (max a b ≡ a)
        one_of a b = grind arith
    at_member false e (inl none) = inl none
    at_member false e (inr has) = inr (or_right _ _ has)

-- the ids of a member are its numbers
pub has_member : (member v : ℕ) (members : List Numbers) → 1 ≤ member
    → has_id (record { member = member; rv = v }) (ids_from 1 members) ≡ is_held (member - 1) v members
has_member member v members some = has_ids (record { member = member; rv = v }) members
    ∙ there member (is_held (member - 1) v members) some
  where
    there : (a : ℕ) (b : Bool) → 1 ≤ a → (ltb 0 a && b) ≡ b
    there a b h = grind (arith, nat_tests)

held_below : (v : ℕ) (member : Numbers) → holds v member ≡ true → v ≤ member.top
held_below v member h = most member.top (is_noted v member.blocks) h
  where
    most : (g : ℕ) (m : Bool) → (ltb 0 v && (leb v g && m)) ≡ true → v ≤ g
    most g m h = grind (arith, nat_tests)

-- the member at a place
abbrev pub at : ℕ → List Numbers → Numbers
at place members = get_or members place (record { blocks = []; top = 0; spare = 0 })

pub top_ids : (member : ℕ) (members : List Numbers) → 1 ≤ member
    → (1 ≤ (at (member - 1) members).top → is_held (member - 1) (at (member - 1) members).top members ≡ true)
    → top member (ids_from 1 members) ≡ (at (member - 1) members).top
top_ids member members some held =
    both (top member (ids_from 1 members)) (at (member - 1) members).top
    (⊎_elim (λ none. rw none (omega arith))
    (λ has. held_below (top member (ids_from 1 members)) (at (member - 1) members)
    (sym (has_member member (top member (ids_from 1 members)) members some) ∙ has))
    (top-has member (ids_from 1 members)))
    (λ k. has-top member (at (member - 1) members).top (ids_from 1 members)
    (has_member member (at (member - 1) members).top members some ∙ held k))
  where
    both : (a b : ℕ) → a ≤ b → (1 ≤ b → b ≤ a) → a ≡ b
    both a b h k = grind arith

pub covers_ids : (member n : ℕ) (members : List Numbers) → 1 ≤ member → covers member n (ids_from 1 members)
    ≡ holds_upto n (at (member - 1) members)
covers_ids member zero members some = refl
covers_ids member (suc n) members some = both (has_member member (suc n) members some) (covers_ids member n members some)
  where
    both : {a b c d : Bool} → a ≡ b → c ≡ d → (a && c) ≡ (b && d)
    both h k = cc

pub gaps_ids : (member n : ℕ) (members : List Numbers) → 1 ≤ member → gaps_upto member n (ids_from 1 members)
    ≡ ends_upto n (λ v. holds v (at (member - 1) members))
gaps_ids member zero members some = refl
gaps_ids member (suc n) members some =
    step (gaps_ids member n members some) (has_member member (suc n) members some) (has_member member (suc (suc n)) members some)
  where
    step : {e f : ℕ} {a b c d : Bool} → e ≡ f → a ≡ b → c ≡ d → e + (if not a && c then 1 else 0) ≡ f + (if not b && d then 1 else 0)
    step h k p = cc

pub exceptions_ids : (member : ℕ) (members : List Numbers) → 1 ≤ member
    → top member (ids_from 1 members) ≡ (at (member - 1) members).top
    → exceptions member (ids_from 1 members) ≡ ends_upto (at (member - 1) members).top (λ v. holds v (at (member - 1) members))
exceptions_ids member members some is =
    ap (λ n. gaps_upto member n (ids_from 1 members)) is ∙ gaps_ids member (at (member - 1) members).top members some

pub element_is : (place : ℕ) (numbers : Numbers) (members : List Numbers) → numbers ≡ get_or members place numbers → place < length members
    → numbers ≡ at place members
element_is place numbers members is lt = is ∙ get_or_default members place numbers (record { blocks = []; top = 0; spare = 0 }) lt

-- the element that the code reads for a member
pub member_is : (from member : ℕ) (numbers : Numbers) (members : List Numbers) → from ≡ member
    → numbers ≡ get_or members (from - 1) numbers → 1 ≤ member → member ≤ 8 → length members ≡ 8 → numbers ≡ at (member - 1) members
member_is from member numbers members e is some most eight =
    element_is (member - 1) numbers members (subst (λ n. numbers ≡ get_or members (n - 1) numbers) e is) (omega (arith, some, most, eight))
