-- Blocks in order: what they tell at a place, and what an edit at a place leaves.
use Rattle.std.proofs.Common.{◌≡◌, ℕ, zero, suc, ◌+◌, ◌-◌, ◌<◌, ◌≤◌, List, [], ◌∷◌, ◌++◌, length, get_or, drop, Bool, false}
use Rattle.std.proofs.Common.{ltb, refl, ◌∙◌, subst, ap, arith, if◌then◌else◌}
use Rattle.std.proofs.lemmas.Bool.Decides.{nat_tests}
use Rattle.gr_vector.specs.declared.block.Block.{Block}
use Rattle.gr_vector.specs.Blocks.{has, told, is_noted, AreAscending, AllAbove, last_first}

pub below_is : (v first : ℕ) (a b : Bool) → first ≤ v → (if ltb v first then a else b) ≡ b
below_is v first a b h = grind (arith, nat_tests)

pub above_is : (v first : ℕ) (a b : Bool) → v < first → (if ltb v first then a else b) ≡ a
above_is v first a b h = grind (arith, nat_tests)

pub told-append : (v : ℕ) (g : Bool) (xs ys : List Block) → told v g (xs ++ ys) ≡ told v (told v g xs) ys
told-append v g [] ys = refl
told-append v g (x ∷ xs) ys = told-append v (if ltb v x.first then g else has v x) xs ys

pub told_above : (v : ℕ) (g : Bool) (blocks : List Block) → AllAbove v blocks → told v g blocks ≡ g
told_above v g [] h = refl
told_above v g (x ∷ xs) h = ap (λ b. told v b xs) (above_is v x.first g (has v x) h.0) ∙ told_above v g xs h.1

pub above_from : (v low : ℕ) (blocks : List Block) → v < low → AreAscending low blocks → AllAbove v blocks
above_from v low [] lt h = tt
above_from v low (x ∷ xs) lt h = (omega (arith, h.0), above_from v x.first xs (omega (arith, h.0)) h.1)

-- what the last block tells that begins at a number or below it
pub told_at : (v : ℕ) (g : Bool) (place : ℕ) (blocks : List Block) (d : Block) → place < length blocks
    → (get_or blocks place d).first ≤ v → AllAbove v (drop (suc place) blocks) → told v g blocks ≡ has v (get_or blocks place d)
told_at v g place [] d lt h above = absurd (omega (arith, lt))
told_at v g zero (x ∷ xs) d lt h above =
    ap (λ b. told v b xs) (below_is v x.first g (has v x) h) ∙ told_above v (has v x) xs above
told_at v g (suc place) (x ∷ xs) d lt h above =
    told_at v (if ltb v x.first then g else has v x) place xs d (omega (arith, lt)) h above

-- in order
pub ascending_sooner : (less low : ℕ) (blocks : List Block) → less ≤ low → AreAscending low blocks → AreAscending less blocks
ascending_sooner less low [] le h = tt
ascending_sooner less low (x ∷ xs) le h = (omega (arith, le, h.0), h.1)

pub ascending_join : (low : ℕ) (xs ys : List Block) → AreAscending low xs → AreAscending (last_first low xs) ys → AreAscending low (xs ++ ys)
ascending_join low [] ys h k = k
ascending_join low (x ∷ xs) ys h k = (h.0, ascending_join x.first xs ys h.1 k)

-- a fact of the place before another
pub behind_at : (P : ℕ → Type 0) (count : ℕ) → (1 ≤ count → P (count - 1)) → (k : ℕ) → k + 1 ≡ count → P k
behind_at P count h k e = let is : count - 1 ≡ k = omega (arith, e) in subst P is (h (omega (arith, e)))

pub told_count : (v count : ℕ) (blocks : List Block) (d : Block) → count ≤ length blocks → 1 ≤ count → AllAbove v (drop count blocks)
    → (get_or blocks (count - 1) d).first ≤ v → is_noted v blocks ≡ has v (get_or blocks (count - 1) d)
told_count v count blocks d le some above h =
    let is : count ≡ suc (count - 1) = omega (arith, some) in
    told_at v false (count - 1) blocks d (omega (arith, le, some)) h (subst (λ n. AllAbove v (drop n blocks)) is above)

pub ascending_drop : (low n : ℕ) (blocks : List Block) (d : Block) → n < length blocks → AreAscending low blocks
    → AreAscending (get_or blocks n d).first (drop n blocks)
ascending_drop low n [] d lt h = absurd (omega (arith, lt))
ascending_drop low zero (x ∷ xs) d lt h = (omega arith, h.1)
ascending_drop low (suc n) (x ∷ xs) d lt h = ascending_drop x.first n xs d (omega (arith, lt)) h.1
