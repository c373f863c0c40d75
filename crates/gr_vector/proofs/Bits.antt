-- The bits of a block.
use Rattle.std.proofs.Common.{◌≡◌, ◌≢◌, ℕ, ◌+◌, ◌-◌, ◌*◌, ◌/◌, ◌%◌, ◌^◌, ◌<◌, ◌≤◌, Bool, true, false, ◌||◌, ◌==◌, min, max, refl, sym}
use Rattle.std.proofs.Common.{◌∙◌, subst, ap, arith, bit_and, bit_or, ⊎_elim}
use Rattle.std.specs.Int.{bit_at, bit_not, w64}
use Rattle.std.proofs.lemmas.Bool.Decides.{nat_tests}
use Rattle.std.proofs.lemmas.Nat.{shr-shr, shr_le}
use Rattle.std.proofs.lemmas.Bool.{cases_lt}
use Rattle.std.proofs.lemmas.Nat.Bits.{shr_and_one, bit_at_or, bit_at_set_same, bit_at_set_other, bit_at_not, ones_shr, bit_at_ones}
use Rattle.std.proofs.lemmas.Nat.Bits.{bit_at_ones_above, bit_at-zero, bit_at-lt}
use Rattle.gr_vector.specs.declared.block.Block.{Block}
use Rattle.gr_vector.specs.Blocks.{has}

-- the test that the code makes
pub has_is : (v : ℕ) (block : Block) → (bit_and (block.bits / 2 ^ min (v - block.first) 63) 1 == 1) ≡ has v block
unfolding has
has_is v block = ap (λ n. n == 1) (shr_and_one block.bits (min (v - block.first) 63))

pub has_none : (v first : ℕ) → has v (record { first = first; bits = 0 }) ≡ false
unfolding has
has_none v first = ap (λ n. n == 1) (bit_at-zero (min (v - first) 63))

-- beyond its own numbers a block says one thing
pub has_far : (v w : ℕ) (block : Block) → block.first + 63 ≤ v → block.first + 63 ≤ w → has v block ≡ has w block
unfolding has
has_far v w block h k = ap (λ i. bit_at block.bits i == 1) (same block.first h k)
  where
    same : (a : ℕ) → a + 63 ≤ v → a + 63 ≤ w → min (v - a) 63 ≡ min (w - a) 63
    same a h k = omega (arith, h, k)

-- one bit more
set_bit : (bits k i : ℕ) → k < 64 → (bit_at (bit_or bits (1 * 2 ^ k % 2 ^ 64)) i == 1) ≡ (i == k || bit_at bits i == 1)
set_bit bits k i lt = at_test (i == k) refl
  where
    equal : (a b : ℕ) → (a == b) ≡ true → a ≡ b
    equal a b e = grind (arith, nat_tests)

    unequal : (a b : ℕ) → (a == b) ≡ false → a ≢ b
    unequal a b e = grind (arith, nat_tests)

    at_test : (b : Bool) → (i == k) ≡ b → (bit_at (bit_or bits (1 * 2 ^ k % 2 ^ 64)) i == 1) ≡ (b || bit_at bits i == 1)
    at_test true e = subst (λ z. (bit_at (bit_or bits (1 * 2 ^ k % 2 ^ 64)) z == 1) ≡ true) (sym (equal i k e))
        (ap (λ n. n == 1) (bit_at_set_same w64 bits k lt))
    at_test false e = ap (λ n. n == 1) (bit_at_set_other w64 bits k lt i (unequal i k e))

pub has_with : (q v : ℕ) (block : Block) → block.first ≤ q → block.first ≤ v → v < block.first + 63
    → has q (record { first = block.first; bits = bit_or block.bits (1 * 2 ^ (v - block.first) % 2 ^ 64) }) ≡ (q == v || has q block)
unfolding has
has_with q v block lq lv own =
    set_bit block.bits (v - block.first) (min (q - block.first) 63) (omega (arith, own, lv))
    ∙ ap (λ b. b || bit_at block.bits (min (q - block.first) 63) == 1) (same block.first lq lv own)
  where
    same : (a : ℕ) → a ≤ q → a ≤ v → v < a + 63 → (min (q - a) 63 == (v - a)) ≡ (q == v)
    same a h k lt = grind (arith, nat_tests)

pub has_filled : (q : ℕ) (block : Block) → q < block.first + 63
    → has q (record { first = block.first; bits = bit_or block.bits (1 * 2 ^ 63 % 2 ^ 64) }) ≡ has q block
unfolding has
has_filled q block lt =
    set_bit block.bits 63 (min (q - block.first) 63) (omega arith)
    ∙ ap (λ b. b || bit_at block.bits (min (q - block.first) 63) == 1) (below block.first lt)
  where
    below : (a : ℕ) → q < a + 63 → (min (q - a) 63 == 63) ≡ false
    below a lt = grind (arith, nat_tests)

-- what either of two has that begin at one number
pub has_either : (q first one two : ℕ) → has q (record { first = first; bits = bit_or one two })
    ≡ (has q (record { first = first; bits = one }) || has q (record { first = first; bits = two }))
unfolding has
has_either q first one two =
    ap (λ n. n == 1) (bit_at_or one two (min (q - first) 63))
    ∙ greater (bit_at one (min (q - first) 63)) (bit_at two (min (q - first) 63)) (bit_at-lt one (min (q - first) 63))
    (bit_at-lt two (min (q - first) 63))
  where
    greater : (a b : ℕ) → a < 2 → b < 2 → (max a b == 1) ≡ (a == 1 || b == 1)
    greater a b h k = grind (arith, nat_tests)

-- a bit of what is left behind a shift
shifted : (n s i : ℕ) → bit_at (n / 2 ^ s) i ≡ bit_at n (s + i)
shifted n s i = ap (λ m. m % 2) (shr-shr n s i)

above_none : (bits i : ℕ) → bits / 2 ^ 63 ≡ 0 → 63 ≤ i → bit_at bits i ≡ 0
above_none bits i none le = ap (bit_at bits) (same i le) ∙ sym (shifted bits 63 (i - 63)) ∙ ap (λ n. bit_at n (i - 63)) none
    ∙ bit_at-zero (i - 63)
  where
    same : (i : ℕ) → 63 ≤ i → i ≡ 63 + (i - 63)
    same i le = omega arith

least_low : (i : ℕ) → i < 63 → i ≡ min i 63
least_low i lt = omega arith

least_high : (i : ℕ) → 63 ≤ i → 63 ≡ min i 63
least_high i le = omega arith

shifted_none : (bits s i : ℕ) → bits / 2 ^ 63 ≡ 0 → bit_at (bits / 2 ^ s) i ≡ bit_at bits (min (s + i) 63)
shifted_none bits s i none = shifted bits s i ∙ ⊎_elim
    (λ lt. ap (bit_at bits) (least_low (s + i) lt))
    (λ le. above_none bits (s + i) none le ∙ sym (above_none bits 63 none (omega arith)) ∙ ap (bit_at bits) (least_high (s + i) le))
    (cases_lt (s + i) 63)

top_bit : (bits : ℕ) → bits < 2 ^ 64 → (bits / 2 ^ 63 ≡ 0 → ⊥) → bit_at bits 63 ≡ 1
top_bit bits lt some = omega arith

filled_up : (bits s i : ℕ) → s ≤ 63 → i < 64 → bit_at (bit_or (bits / 2 ^ s) (bit_not w64 ((2 ^ 64 - 1) / 2 ^ s))) i
    ≡ max (bit_at bits (s + i)) (1 - bit_at (2 ^ (64 - s) - 1) i)
filled_up bits s i le lt =
    bit_at_or (bits / 2 ^ s) (bit_not w64 ((2 ^ 64 - 1) / 2 ^ s)) i
    ∙ ap (λ n. max n (bit_at (bit_not w64 ((2 ^ 64 - 1) / 2 ^ s)) i)) (shifted bits s i)
    ∙ ap (max (bit_at bits (s + i))) (bit_at_not w64 ((2 ^ 64 - 1) / 2 ^ s) i (fits s) lt
    ∙ ap (λ n. 1 - bit_at n i) (ones_shr 64 s (omega (arith, le))))
  where
    fits : (s : ℕ) → (2 ^ 64 - 1) / 2 ^ s < 2 ^ 64
    fits s = omega (arith, shr_le (2 ^ 64 - 1) s)

shifted_full : (bits s i : ℕ) → bits < 2 ^ 64 → (bits / 2 ^ 63 ≡ 0 → ⊥) → s ≤ 63 → i < 64
    → bit_at (bit_or (bits / 2 ^ s) (bit_not w64 ((2 ^ 64 - 1) / 2 ^ s))) i ≡ bit_at bits (min (s + i) 63)
shifted_full bits s i lt some le i_lt = filled_up bits s i le i_lt ∙ ⊎_elim
    (λ k. ap (λ n. max (bit_at bits (s + i)) (1 - n)) (bit_at_ones (64 - s) i (omega (arith, k)))
    ∙ no_more (bit_at bits (s + i)) ∙ ap (bit_at bits) (own k))
    (λ k. ap (λ n. max (bit_at bits (s + i)) (1 - n)) (bit_at_ones_above (64 - s) i (omega (arith, k)))
    ∙ one (bit_at bits (s + i)) (bit_at-lt bits (s + i)) ∙ sym (top_bit bits lt some) ∙ ap (bit_at bits) (least_high (s + i) (omega (arith, k))))
    (cases_lt (s + i) 64)
  where
    no_more : (n : ℕ) → max n (1 - 1) ≡ n
    no_more n = omega arith

    one : (n : ℕ) → n < 2 → max n (1 - 0) ≡ 1
    one n h = omega arith

    own : s + i < 64 → s + i ≡ min (s + i) 63
    own k = omega arith

-- the same from a later number on, by bits that are so moved
pub has_later : (q first bits : ℕ) (block : Block) → block.first ≤ first → first ≤ q
    → ((i : ℕ) → i < 64 → bit_at bits i ≡ bit_at block.bits (min (min (first - block.first) 63 + i) 63))
    → has q (record { first = first; bits = bits }) ≡ has q block
unfolding has
has_later q first bits block h k moved =
    ap (λ n. n == 1) (moved (min (q - first) 63) (omega arith) ∙ ap (bit_at block.bits) (places block.first first q h k))
  where
    places : (a b c : ℕ) → a ≤ b → b ≤ c → min (min (b - a) 63 + min (c - b) 63) 63 ≡ min (c - a) 63
    places a b c h k = omega arith

pub has_later_none : (q first : ℕ) (block : Block) → block.first ≤ first → first ≤ q → block.bits / 2 ^ 63 ≡ 0
    → has q (record { first = first; bits = block.bits / 2 ^ min (first - block.first) 63 }) ≡ has q block
has_later_none q first block h k none =
    has_later q first (block.bits / 2 ^ min (first - block.first) 63) block h k
    (λ i lt. shifted_none block.bits (min (first - block.first) 63) i none)

pub has_later_full : (q first : ℕ) (block : Block) → block.first ≤ first → first ≤ q → block.bits < 2 ^ 64
    → (block.bits / 2 ^ 63 ≡ 0 → ⊥)
    → has q (record {
      first = first;
      bits = bit_or (block.bits / 2 ^ min (first - block.first) 63)
          (bit_not w64 ((2 ^ 64 - 1) / 2 ^ min (first - block.first) 63));
    }) ≡ has q block
has_later_full q first block h k lt some =
    has_later q first _ block h k
    (λ i i_lt. shifted_full block.bits (min (first - block.first) 63) i lt some (omega arith) i_lt)
