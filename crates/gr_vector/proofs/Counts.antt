-- How many blocks begin at a number or below it, and how many runs of missing numbers end.
use Rattle.std.proofs.Common.{◌≡◌, ℕ, zero, suc, ◌+◌, ◌-◌, ◌<◌, ◌≤◌, List, [], ◌∷◌, length, get_or, drop, Bool, true, false, not, ◌&&◌, leb}
use Rattle.std.proofs.Common.{refl, sym, ◌∙◌, subst, ap, arith, add-one, if◌then◌else◌}
use Rattle.std.proofs.lemmas.Bool.Decides.{nat_tests}
use Rattle.std.proofs.lemmas.List.Sorted.{IsNonDecreasingBy-from_all_adjacent, IsPartitionedBy-leb, IsPartitionPoint-from_clause}
use denote.Ref.{Bor}
use denote.Param.Members.{Mut}
use Rattle.std.specs.Fn.{Called, ComputesKey}
use Rattle.std.specs.List.Sorted.{IsPartitionedBy, IsPartitionPoint}
use Rattle.gr_vector.specs.declared.block.Block.{Block}
use Rattle.gr_vector.specs.Blocks.{ends_upto, AreAscending, AllAbove}

rising : (low : ℕ) (blocks : List Block) → AreAscending low blocks → (k : ℕ) (d : Block) → suc k < length blocks
    → (get_or blocks k d).first ≤ (get_or blocks (suc k) d).first
rising low [] h k d lt = absurd (omega (arith, lt))
rising low (x ∷ []) h k d lt = absurd (omega (arith, lt))
rising low (x ∷ y ∷ rest) h zero d lt = h.1.0
rising low (x ∷ y ∷ rest) h (suc k) d lt = rising x.first (y ∷ rest) h.1 k d (omega (arith, lt))

are_parted : (v : ℕ) (blocks : List Block) → AreAscending 0 blocks → IsPartitionedBy (λ block. leb block.first v) blocks
are_parted v blocks h = IsPartitionedBy-leb (λ block. block.first) blocks v
    (IsNonDecreasingBy-from_all_adjacent (λ block. block.first) blocks
    (λ k d lt. subst (λ z. (get_or blocks k d).first ≤ (get_or blocks z d).first) (sym (add-one k))
    (rising 0 blocks h k d (subst (λ z. z < length blocks) (add-one k) lt))))

abbrev pub IsPoint : ℕ → List Block → ℕ → Type 0
IsPoint v blocks count = IsPartitionPoint (λ block. leb block.first v ≡ true) (λ block. leb block.first v ≡ false) blocks count

-- from the clause of `partition_point`, where each call compares the first number of a block
pub is_point : {F : Type 0} {g : Mut F (Bor Block × Unit {0}) Bool} {f : F} (v count : ℕ) (blocks : List Block) → AreAscending 0 blocks
    → ((q : Block → Bool) → ComputesKey g q f → IsPartitionedBy q blocks
    → IsPartitionPoint (λ block. q block ≡ true) (λ block. q block ≡ false) blocks count)
    → ((a : Bor Block × Unit {0}) (r : Bool) (f' : F) → Called g f a r f' → (r ≡ leb a.0.now.first v) × (f' ≡ f)) → IsPoint v blocks count
is_point v count blocks h clause gives =
    IsPartitionPoint-from_clause (λ block. leb block.first v) blocks count clause (are_parted v blocks h) gives

above_all : (v : ℕ) (blocks : List Block) → ((k : ℕ) (d : Block) → k < length blocks → v < (get_or blocks k d).first) → AllAbove v blocks
above_all v [] h = tt
above_all v (x ∷ xs) h = (h 0 x (omega arith), above_all v xs (λ k d lt. h (suc k) d (omega (arith, lt))))

above_drop : (v count : ℕ) (blocks : List Block)
    → ((k : ℕ) (d : Block) → count ≤ k → k < length blocks → v < (get_or blocks k d).first) → AllAbove v (drop count blocks)
above_drop v zero blocks h = above_all v blocks (λ k d lt. h k d (omega arith) lt)
above_drop v (suc count) [] h = tt
above_drop v (suc count) (x ∷ xs) h = above_drop v count xs (λ k d le lt. h (suc k) d (omega (arith, le)) (omega (arith, lt)))

pub point_above : (v count : ℕ) (blocks : List Block) → IsPoint v blocks count → AllAbove v (drop count blocks)
point_above v count blocks point = above_drop v count blocks
    (λ k d le lt. more (get_or blocks k d).first (point.1 k d le lt))
  where
    more : (a : ℕ) → leb a v ≡ false → v < a
    more a e = grind (arith, nat_tests)

pub point_below : (v count : ℕ) (blocks : List Block) (d : Block) → IsPoint v blocks count → 1 ≤ count → count ≤ length blocks
    → (get_or blocks (count - 1) d).first ≤ v
point_below v count blocks d point some le = most (get_or blocks (count - 1) d).first (point.0 (count - 1) d (omega arith) (omega (arith, some)))
  where
    most : (a : ℕ) → leb a v ≡ true → a ≤ v
    most a e = grind (arith, nat_tests)

-- numbers between which nothing ends
pub ends_steady : (n m : ℕ) (held : ℕ → Bool) → ((v : ℕ) → n < v → v < n + m + 1 → held v ≡ held (suc v)) → ends_upto (n + m) held ≡ ends_upto n held
ends_steady n zero held same = ap (λ k. ends_upto k held) (none n)
  where
    none : (n : ℕ) → n + 0 ≡ n
    none n = omega arith
ends_steady n (suc m) held same =
    ap (λ k. ends_upto k held) (next n m)
    ∙ flat (ends_upto (n + m) held) (held (suc (n + m))) (held (suc (suc (n + m)))) (same (suc (n + m)) (omega arith) (omega arith))
    ∙ ends_steady n m held (λ v h k. same v h (omega (arith, k)))
  where
    next : (n m : ℕ) → n + suc m ≡ suc (n + m)
    next n m = omega arith

    flat : (e : ℕ) (a b : Bool) → a ≡ b → e + (if not a && b then 1 else 0) ≡ e
    flat e a b h = grind arith

pub ends_same : (n : ℕ) (f g : ℕ → Bool) → ((v : ℕ) → 1 ≤ v → f v ≡ g v) → ends_upto n f ≡ ends_upto n g
ends_same zero f g same = refl
ends_same (suc n) f g same = step (ends_same n f g same) (same (suc n) (omega arith)) (same (suc (suc n)) (omega arith))
  where
    step : {e h : ℕ} {a b c d : Bool} → e ≡ h → a ≡ b → c ≡ d → e + (if not a && c then 1 else 0) ≡ h + (if not b && d then 1 else 0)
    step p q r = cc

-- one number counted, and those behind it at which nothing ends
pub ends_more : (number later : ℕ) (held : ℕ → Bool) → 1 ≤ number → number < later
    → ((v : ℕ) → number < v → v < later → held v ≡ held (suc v))
    → ends_upto (later - 1) held ≡ ends_upto (number - 1) held + (if not (held number) && held (suc number) then 1 else 0)
ends_more zero later held some lt same = absurd (omega (arith, some))
ends_more (suc n) later held some lt same =
    ap (λ k. ends_upto k held) (apart n later lt)
    ∙ ends_steady (suc n) (later - 1 - suc n) held (λ v h k. same v h (omega (arith, k, lt)))
    ∙ ap (λ k. ends_upto k held + (if not (held (suc n)) && held (suc (suc n)) then 1 else 0)) (back n)
  where
    apart : (n later : ℕ) → suc n < later → later - 1 ≡ suc n + (later - 1 - suc n)
    apart n later lt = omega (arith, lt)

    back : (n : ℕ) → n ≡ suc n - 1
    back n = omega arith

-- above the greatest number nothing ends
ends_none : (n m : ℕ) (held : ℕ → Bool) → ((v : ℕ) → n < v → held (suc v) ≡ false) → ends_upto (n + m) held ≡ ends_upto n held
ends_none n zero held none = ap (λ k. ends_upto k held) (same n)
  where
    same : (n : ℕ) → n + 0 ≡ n
    same n = omega arith
ends_none n (suc m) held none =
    ap (λ k. ends_upto k held) (next n m)
    ∙ flat (ends_upto (n + m) held) (held (suc (n + m))) (held (suc (suc (n + m)))) (none (suc (n + m)) (omega arith))
    ∙ ends_none n m held none
  where
    next : (n m : ℕ) → n + suc m ≡ suc (n + m)
    next n m = omega arith

    flat : (e : ℕ) (a b : Bool) → b ≡ false → e + (if not a && b then 1 else 0) ≡ e
    flat e a b h = grind arith

pub ends_past : (n top : ℕ) (held : ℕ → Bool) → ((v : ℕ) → top < v → held v ≡ false) → top ≤ n + 1
    → ends_upto n held ≡ ends_upto top held
ends_past n top held beyond le =
    ap (λ k. ends_upto k held) (before n top le) ∙ ends_none (top - 1) (n - (top - 1)) held none
    ∙ sym (ap (λ k. ends_upto k held) (before top top (omega arith)) ∙ ends_none (top - 1) (top - (top - 1)) held none)
  where
    before : (n top : ℕ) → top ≤ n + 1 → n ≡ top - 1 + (n - (top - 1))
    before n top le = omega (arith, le)

    none : (v : ℕ) → top - 1 < v → held (suc v) ≡ false
    none v lt = beyond (suc v) (omega (arith, lt))
