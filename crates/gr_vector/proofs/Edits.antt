-- What an edit at a place of blocks in order leaves.
use Rattle.std.proofs.Common.{◌≡◌, ℕ, zero, suc, ◌+◌, ◌-◌, ◌<◌, ◌≤◌, List, [], ◌∷◌, ◌++◌, length, get_or, set, take, drop, Bool, true, false}
use Rattle.std.proofs.Common.{◌||◌, ◌==◌, ltb, refl, sym, ◌∙◌, subst, ap, arith, add-one, if◌then◌else◌}
use Rattle.std.proofs.lemmas.List.{get_or_default}
use Rattle.std.proofs.lemmas.Bool.Decides.{nat_tests}
use Rattle.gr_vector.specs.declared.block.Block.{Block}
use Rattle.gr_vector.specs.Blocks.{has, told, is_noted, AreAscending, AllAbove}
use Rattle.gr_vector.proofs.Bits.{has_far}
use Rattle.gr_vector.proofs.Places.{told-append, told_above, told_at, below_is, ascending_sooner}

-- a block in another's place
pub ascending_set : (low place : ℕ) (blocks : List Block) (b d : Block) → place < length blocks → b.first ≡ (get_or blocks place d).first
    → AreAscending low blocks → AreAscending low (set blocks place b)
ascending_set low place [] b d lt e h = absurd (omega (arith, lt))
ascending_set low zero (x ∷ xs) b d lt e h = (omega (arith, e, h.0), ascending_sooner b.first x.first xs (omega (arith, e)) h.1)
ascending_set low (suc place) (x ∷ xs) b d lt e h = (h.0, ascending_set x.first place xs b d (omega (arith, lt)) e h.1)

-- the last bit of a block is nobody's, where the next one begins behind its own numbers
pub told_filled : (v : ℕ) (g : Bool) (place : ℕ) (blocks : List Block) (b d : Block) → suc place < length blocks
    → b.first ≡ (get_or blocks place d).first → (get_or blocks (suc place) d).first ≡ (get_or blocks place d).first + 63
    → (v < (get_or blocks place d).first + 63 → has v b ≡ has v (get_or blocks place d)) → told v g (set blocks place b) ≡ told v g blocks
told_filled v g place [] b d lt e n same = absurd (omega (arith, lt))
told_filled v g zero (x ∷ []) b d lt e n same = absurd (omega (arith, lt))
told_filled v g zero (x ∷ y ∷ zs) b d lt e n same =
    ap (λ t. told v t zs) (either b.first x.first y.first (has v b) (has v x) (has v y) e n same)
  where
    either : (b x y : ℕ) (p q r : Bool) → b ≡ x → y ≡ x + 63 → (v < x + 63 → p ≡ q)
        → (if ltb v y then (if ltb v b then g else p) else r) ≡ (if ltb v y then (if ltb v x then g else q) else r)
    either b x y p q r e n same = grind (arith, nat_tests)
told_filled v g (suc place) (x ∷ xs) b d lt e n same =
    told_filled v (if ltb v x.first then g else has v x) place xs b d (omega (arith, lt)) e n same

-- a block that says what the one in front of it says
pub ascending_remove : (low place : ℕ) (blocks : List Block) → AreAscending low blocks
    → AreAscending low (take place blocks ++ drop (suc place) blocks)
ascending_remove low zero [] h = tt
ascending_remove low zero (x ∷ xs) h = ascending_sooner low x.first xs h.0 h.1
ascending_remove low (suc place) [] h = tt
ascending_remove low (suc place) (x ∷ xs) h = (h.0, ascending_remove x.first place xs h.1)

pub told_absorbed : (v : ℕ) (g : Bool) (place : ℕ) (blocks : List Block) (d : Block) → suc place < length blocks
    → (get_or blocks place d).first ≤ (get_or blocks (suc place) d).first
    → ((get_or blocks (suc place) d).first ≤ v → has v (get_or blocks (suc place) d) ≡ has v (get_or blocks place d))
    → told v g (take (suc place) blocks ++ drop (suc (suc place)) blocks) ≡ told v g blocks
told_absorbed v g place [] d lt le same = absurd (omega (arith, lt))
told_absorbed v g zero (x ∷ []) d lt le same = absurd (omega (arith, lt))
told_absorbed v g zero (x ∷ y ∷ zs) d lt le same = ap (λ t. told v t zs) (either x.first y.first (has v x) (has v y) le same)
  where
    either : (x y : ℕ) (p q : Bool) → x ≤ y → (y ≤ v → q ≡ p)
        → (if ltb v x then g else p) ≡ (if ltb v y then (if ltb v x then g else p) else q)
    either x y p q le same = grind (arith, nat_tests)
told_absorbed v g (suc place) (x ∷ xs) d lt le same =
    told_absorbed v (if ltb v x.first then g else has v x) place xs d (omega (arith, lt)) le same

-- a new block between two
first_least : (low k : ℕ) (blocks : List Block) (d : Block) → AreAscending low blocks → k < length blocks → low ≤ (get_or blocks k d).first
first_least low k [] d h lt = absurd (omega (arith, lt))
first_least low zero (x ∷ xs) d h lt = h.0
first_least low (suc k) (x ∷ xs) d h lt =
    let le = first_least x.first k xs d h.1 (omega (arith, lt)) in
    omega (arith, h.0, le)

ascending_later : (low first v : ℕ) (blocks : List Block) → first ≤ v → AllAbove v blocks → AreAscending low blocks → AreAscending first blocks
ascending_later low first v [] le above h = tt
ascending_later low first v (x ∷ xs) le above h = (omega (arith, le, above.0), h.1)

pub ascending_insert : (low v count : ℕ) (blocks : List Block) (b d : Block) → count ≤ length blocks → AllAbove v (drop count blocks)
    → b.first ≤ v → low ≤ b.first → ((k : ℕ) → k + 1 ≡ count → (get_or blocks k d).first ≤ b.first) → AreAscending low blocks
    → AreAscending low (take count blocks ++ b ∷ drop count blocks)
ascending_insert low v zero blocks b d le above at sooner behind h = (sooner, ascending_later low b.first v blocks at above h)
ascending_insert low v (suc count) [] b d le above at sooner behind h = absurd (omega (arith, le))
ascending_insert low v (suc zero) (x ∷ xs) b d le above at sooner behind h =
    (h.0, ascending_insert x.first v zero xs b d (omega arith) above at (behind 0 (omega arith)) (λ k e. absurd (omega (arith, e))) h.1)
ascending_insert low v (suc (suc k)) (x ∷ xs) b d le above at sooner behind h =
    let before : (get_or xs k d).first ≤ b.first = behind (suc k) (omega arith) in
    let first = first_least x.first k xs d h.1 (omega (arith, le)) in (
      h.0,
      ascending_insert x.first v (suc k) xs b d (omega (arith, le)) above at (omega (arith, before, first))
          (λ j e. behind (suc j) (omega (arith, e))) h.1,
    )

-- a number that isn't there yet
one_more : (q v : ℕ) (ys : List Block) (t : Bool) → AllAbove v ys → told q ((q == v) || t) ys ≡ ((q == v) || told q t ys)
one_more q v ys t above = at_test (q == v) refl
  where
    equal : (a b : ℕ) → (a == b) ≡ true → a ≡ b
    equal a b e = grind (arith, nat_tests)

    at_test : (b : Bool) → (q == v) ≡ b → told q (b || t) ys ≡ (b || told q t ys)
    at_test true e = subst (λ z. told z true ys ≡ true) (sym (equal q v e)) (told_above v true ys above)
    at_test false e = refl

pub told_own : (q v : ℕ) (g : Bool) (place : ℕ) (blocks : List Block) (b d : Block) → place < length blocks
    → b.first ≡ (get_or blocks place d).first → (get_or blocks place d).first ≤ v → AllAbove v (drop (suc place) blocks)
    → ((get_or blocks place d).first ≤ q → has q b ≡ (q == v || has q (get_or blocks place d)))
    → told q g (set blocks place b) ≡ (q == v || told q g blocks)
told_own q v g place [] b d lt e le above more = absurd (omega (arith, lt))
told_own q v g zero (x ∷ xs) b d lt e le above more =
    ap (λ t. told q t xs) (either b.first x.first (has q b) (has q x) e le more)
    ∙ one_more q v xs (if ltb q x.first then g else has q x) above
  where
    either : (b x : ℕ) (p r : Bool) → b ≡ x → x ≤ v → (x ≤ q → p ≡ (q == v || r))
        → (if ltb q b then g else p) ≡ ((q == v) || (if ltb q x then g else r))
    either b x p r e le more = grind (arith, nat_tests)
told_own q v g (suc place) (x ∷ xs) b d lt e le above more =
    told_own q v (if ltb q x.first then g else has q x) place xs b d (omega (arith, lt)) e le above more

pub told_inserted : (q v : ℕ) (xs ys : List Block) (b : Block) → AllAbove v ys → b.first ≤ v
    → (b.first ≤ q → told q false xs ≡ false) → (b.first ≤ q → has q b ≡ (q == v))
    → is_noted q (xs ++ b ∷ ys) ≡ (q == v || is_noted q (xs ++ ys))
told_inserted q v xs ys b above le none own =
    told-append q false xs (b ∷ ys)
    ∙ ap (λ t. told q t ys) (either b.first (told q false xs) (has q b) le none own)
    ∙ one_more q v ys (told q false xs) above
    ∙ ap (λ t. q == v || t) (sym (told-append q false xs ys))
  where
    either : (b : ℕ) (t p : Bool) → b ≤ v → (b ≤ q → t ≡ false) → (b ≤ q → p ≡ (q == v)) → (if ltb q b then t else p) ≡ ((q == v) || t)
    either b t p le none own = grind (arith, nat_tests)

-- beyond a block's own numbers, where it told that one is missing
pub told_taken : (q : ℕ) (g : Bool) (k : ℕ) (blocks : List Block) (d : Block) → k < length blocks → (get_or blocks k d).first ≤ q
    → told q g (take (suc k) blocks) ≡ has q (get_or blocks k d)
told_taken q g k [] d lt h = absurd (omega (arith, lt))
told_taken q g zero (x ∷ xs) d lt h = below_is q x.first g (has q x) h
told_taken q g (suc k) (x ∷ xs) d lt h = told_taken q (if ltb q x.first then g else has q x) k xs d (omega (arith, lt)) h

pub missing_beyond : (q v count low : ℕ) (blocks : List Block) (d : Block) → count ≤ length blocks → AllAbove v (drop count blocks)
    → is_noted v blocks ≡ false → ((k : ℕ) → k + 1 ≡ count → (get_or blocks k d).first + 63 ≤ low) → low ≤ v → low ≤ q
    → told q false (take count blocks) ≡ false
missing_beyond q v zero low blocks d le above fresh behind h k = refl
missing_beyond q v (suc count) low blocks d le above fresh behind h k =
    let far : (get_or blocks count d).first + 63 ≤ low = behind count (omega arith) in
    told_taken q false count blocks d (omega (arith, le)) (omega (arith, far, k))
    ∙ has_far q v (get_or blocks count d) (omega (arith, far, k)) (omega (arith, far, h))
    ∙ sym (told_at v false count blocks d (omega (arith, le)) (omega (arith, far, h)) above) ∙ fresh

-- two numbers that the same block tells of, beyond its own
pub above_sooner : (v w : ℕ) (blocks : List Block) → v ≤ w → AllAbove w blocks → AllAbove v blocks
above_sooner v w [] le h = tt
above_sooner v w (x ∷ xs) le h = (omega (arith, le, h.0), above_sooner v w xs le h.1)

pub steady : (v count : ℕ) (blocks : List Block) (d : Block) → count ≤ length blocks → AllAbove (suc v) (drop count blocks)
    → ((k : ℕ) → k + 1 ≡ count → (get_or blocks k d).first + 63 ≤ v) → is_noted v blocks ≡ is_noted (suc v) blocks
steady v zero blocks d le above far =
    told_above v false blocks (above_sooner v (suc v) blocks (omega arith) above) ∙ sym (told_above (suc v) false blocks above)
steady v (suc count) blocks d le above far =
    let behind : (get_or blocks count d).first + 63 ≤ v = far count (omega arith) in
    told_at v false count blocks d (omega (arith, le)) (omega (arith, behind))
    (above_sooner v (suc v) (drop (suc count) blocks) (omega arith) above)
    ∙ has_far v (suc v) (get_or blocks count d) behind (omega (arith, behind))
    ∙ sym (told_at (suc v) false count blocks d (omega (arith, le)) (omega (arith, behind)) above)

-- what the code reads at two places
pub next_begins : (place : ℕ) (blocks : List Block) (x y : Block) → x ≡ get_or blocks place x → y ≡ get_or blocks (place + 1) y
    → place + 1 < length blocks → y.first - x.first ≡ 63 → (get_or blocks (suc place) x).first ≡ (get_or blocks place x).first + 63
next_begins place blocks x y is next lt e =
    let there : y ≡ get_or blocks (suc place) x = subst (λ n. y ≡ get_or blocks n y) (add-one place) next
    ∙ get_or_default blocks (suc place) y x (omega (arith, lt)) in
    let a : y.first ≡ (get_or blocks (suc place) x).first = ap (λ b. b.first) there in
    let b : x.first ≡ (get_or blocks place x).first = ap (λ b. b.first) is in
    omega (arith, a, b, e)

pub absorbed_at : (v place : ℕ) (blocks : List Block) (x y : Block) → 0 < place → place < length blocks → x ≡ get_or blocks (place - 1) x
    → y ≡ get_or blocks place y → x.first ≤ y.first → ((w : ℕ) → y.first ≤ w → has w y ≡ has w x)
    → is_noted v (take place blocks ++ drop (suc place) blocks) ≡ is_noted v blocks
absorbed_at v zero blocks x y some lt is next le same = absurd (omega (arith, some))
absorbed_at v (suc k) blocks x y some lt is next le same =
    let before : suc k - 1 ≡ k = omega arith in
    let front : x ≡ get_or blocks k x = subst (λ n. x ≡ get_or blocks n x) before is in
    let back : y ≡ get_or blocks (suc k) x = next ∙ get_or_default blocks (suc k) y x lt in
    told_absorbed v false k blocks x lt
    (subst (λ a. a.first ≤ (get_or blocks (suc k) x).first) front (subst (λ b. x.first ≤ b.first) back le))
    (subst (λ a. (get_or blocks (suc k) x).first ≤ v → has v (get_or blocks (suc k) x) ≡ has v a) front
    (subst (λ b. b.first ≤ v → has v b ≡ has v x) back (same v)))
