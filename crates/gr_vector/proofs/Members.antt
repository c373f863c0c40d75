-- Members in a list: what a write and a push leave.
use Rattle.std.proofs.Common.{◌≡◌, ◌≢◌, ℕ, zero, suc, ◌+◌, ◌<◌, List, [], ◌∷◌, ◌++◌, length, get_or, set, take, Bool, true, false, ◌&&◌}
use Rattle.std.proofs.Common.{◌||◌, ◌==◌, refl, sym, ◌∙◌, subst, ap, arith, if◌then◌else◌, get_or-set_other, get_or-set_same}
use Rattle.std.proofs.lemmas.Bool.Decides.{nat_tests}
use Rattle.std.proofs.lemmas.List.{take_more}
use Rattle.gr_vector.specs.Blocks.{Numbers, holds}
use Rattle.gr_vector.specs.Views.{is_held}
use Rattle.gr_vector.proofs.Tops.{element_is}

held_pushed : (k v : ℕ) (m : Numbers) (xs : List Numbers) → is_held k v (xs ++ m ∷ [])
    ≡ (if k == length xs then holds v m else is_held k v xs)
held_pushed zero v m [] = refl
held_pushed (suc k) v m [] = ap (λ b. if b then holds v m else holds v (record { blocks = []; top = 0; spare = 0 })) (none k)
  where
    none : (a : ℕ) → false ≡ (suc a == 0)
    none a = grind (arith, nat_tests)
held_pushed zero v m (first ∷ xs) = ap (λ b. if b then holds v m else holds v first) (none (length xs))
  where
    none : (a : ℕ) → false ≡ (0 == suc a)
    none a = grind (arith, nat_tests)
held_pushed (suc k) v m (first ∷ xs) = held_pushed k v m xs ∙ ap (λ b. if b then holds v m else is_held k v xs) (same k (length xs))
  where
    same : (a b : ℕ) → (a == b) ≡ (suc a == suc b)
    same a b = grind (arith, nat_tests)

pub pushed_same : (n : ℕ) (xs ys : List Numbers) (m o : Numbers) → length xs ≡ n → length ys ≡ n
    → ((k v : ℕ) → is_held k v xs ≡ is_held k v ys)
    → ((v : ℕ) → holds v m ≡ holds v o) → (k v : ℕ) → is_held k v (xs ++ m ∷ []) ≡ is_held k v (ys ++ o ∷ [])
pushed_same n xs ys m o xs_is ys_is same here k v =
    held_pushed k v m xs ∙ ap (λ n. if k == n then holds v m else is_held k v xs) xs_is
    ∙ either (k == n) (same k v) (here v)
    ∙ ap (λ n. if k == n then holds v o else is_held k v ys) (sym ys_is) ∙ sym (held_pushed k v o ys)
  where
    either : (b : Bool) {x y p q : Bool} → x ≡ p → y ≡ q → (if b then y else x) ≡ (if b then q else p)
    either true h e = e
    either false h e = h

pub pushed_both : (n : ℕ) (xs ours theirs : List Numbers) (m our their : Numbers) → length xs ≡ n → length ours ≡ n → length theirs ≡ n
    → ((k v : ℕ) → is_held k v xs ≡ (is_held k v ours || is_held k v theirs))
    → ((v : ℕ) → holds v m ≡ (holds v our || holds v their))
    → (k v : ℕ) → is_held k v (xs ++ m ∷ []) ≡ (is_held k v (ours ++ our ∷ []) || is_held k v (theirs ++ their ∷ []))
pushed_both n xs ours theirs m our their xs_is ours_is theirs_is both here k v =
    held_pushed k v m xs ∙ ap (λ n. if k == n then holds v m else is_held k v xs) xs_is
    ∙ either (k == n) _ _ _ _ _ _ (both k v) (here v)
    ∙ sym (joined (held_pushed k v our ours ∙ ap (λ n. if k == n then holds v our else is_held k v ours) ours_is)
    (held_pushed k v their theirs ∙ ap (λ n. if k == n then holds v their else is_held k v theirs) theirs_is))
  where
    joined : {a b x y : Bool} → a ≡ x → b ≡ y → (a || b) ≡ (x || y)
    joined {a} {b} {x} {y} h e = cc

    either : (b x y p q r s : Bool) → x ≡ (p || q) → y ≡ (r || s) → (if b then y else x) ≡ ((if b then r else p) || (if b then s else q))
    either true x y p q r s h e = e
    either false x y p q r s h e = h

pub take_next : (i : ℕ) (xs : List Numbers) (m : Numbers) → i < length xs → m ≡ get_or xs i m → take (i + 1) xs ≡ take i xs ++ m ∷ []
take_next i xs m lt is = take_more xs i m lt ∙ ap (λ x. take i xs ++ x ∷ []) (sym is)

equal : (a b : ℕ) → (a == b) ≡ true → a ≡ b
equal a b e = grind (arith, nat_tests)

unequal : (a b : ℕ) → (a == b) ≡ false → a ≢ b
unequal a b e = grind (arith, nat_tests)

held_set : (k v place : ℕ) (old : List Numbers) (m : Numbers) → place < length old
    → is_held k v (set old place m) ≡ (if k == place then holds v m else is_held k v old)
held_set k v place old m lt = at_place (k == place) refl
  where
    nothing : Numbers
    nothing = record { blocks = []; top = 0; spare = 0 }

    at_place : (b : Bool) → (k == place) ≡ b → is_held k v (set old place m) ≡ (if b then holds v m else is_held k v old)
    at_place true e =
        subst (λ z. is_held z v (set old place m) ≡ holds v m) (sym (equal k place e))
        (ap (λ x. holds v x) (get_or-set_same old place m nothing lt))
    at_place false e = ap (λ x. holds v x) (get_or-set_other old place k m nothing (unequal k place e))

held_here : (k v place : ℕ) (old : List Numbers) (o : Numbers) → place < length old → o ≡ get_or old place o → (k == place) ≡ true
    → holds v o ≡ is_held k v old
held_here k v place old o lt is e =
    subst (λ z. holds v o ≡ is_held z v old) (sym (equal k place e)) (ap (λ x. holds v x) (element_is place o old is lt))

pub noted_at : (place n : ℕ) (old : List Numbers) (m o : Numbers) → place < length old → o ≡ get_or old place o
    → ((v : ℕ) → holds v m ≡ (v == n || holds v o))
    → (k v : ℕ) → is_held k v (set old place m) ≡ ((k == place && v == n) || is_held k v old)
noted_at place n old m o lt is more k v = held_set k v place old m lt ∙ at_place (k == place) refl
  where
    at_place : (b : Bool) → (k == place) ≡ b
        → (if b then holds v m else is_held k v old) ≡ ((b && v == n) || is_held k v old)
    at_place true e = more v ∙ ap (λ b. v == n || b) (held_here k v place old o lt is e)
    at_place false e = refl

pub same_at : (place : ℕ) (old : List Numbers) (m o : Numbers) → place < length old → o ≡ get_or old place o → ((v : ℕ) → holds v m ≡ holds v o)
    → (k v : ℕ) → is_held k v (set old place m) ≡ is_held k v old
same_at place old m o lt is same k v = held_set k v place old m lt ∙ either (k == place) refl
  where
    either : (b : Bool) → (k == place) ≡ b → (if b then holds v m else is_held k v old) ≡ is_held k v old
    either true e = same v ∙ held_here k v place old o lt is e
    either false e = refl

pub both_taken : (k v i : ℕ) (ours theirs : List Numbers) (m o : Numbers) → i < length ours → i < length theirs → m ≡ get_or ours i m
    → o ≡ get_or theirs i o
    → (is_held k v (take (i + 1) ours) || is_held k v (take (i + 1) theirs))
    ≡ (is_held k v (take i ours ++ m ∷ []) || is_held k v (take i theirs ++ o ∷ []))
both_taken k v i ours theirs m o lt their_lt is their_is =
    ap (λ xs. is_held k v xs || is_held k v (take (i + 1) theirs)) (take_next i ours m lt is)
    ∙ ap (λ xs. is_held k v (take i ours ++ m ∷ []) || is_held k v xs) (take_next i theirs o their_lt their_is)
