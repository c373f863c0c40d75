-- Keys are in the order of their fronts, where these differ.
use Rattle.std.proofs.Common.{◌≡◌, ◌∙◌, ap, refl, sym, ℕ, zero, suc, ◌+◌, ◌-◌, ◌*◌, ◌^◌, ◌<◌, ◌≤◌, ◌≢◌, arith, List, [], ◌∷◌, ◌++◌}
use Rattle.std.proofs.Common.{length, take, drop, get_or, true, Ordering, Less, Equal, Greater}
use Rattle.std.proofs.Math.Nat.{pow-succ', mul-le-mul_left}
use Rattle.std.proofs.Math.ListN.{replicate}
use Rattle.std.proofs.lemmas.List.{take-append-drop, drop-replicate, drop_all, length-drop, length-take-le, take_all}
use Rattle.std.proofs.lemmas.Bool.{and_parts}
use Rattle.std.specs.List.{list_all}
use Rattle.std.specs.Cmp.{nat_cmp_is, ranks}
use Rattle.std.specs.Cmp.Lexicographic.{slice_cmp}
use Rattle.std.specs.Ordering.{nat_cmp, MatchOrdering, ordering_then}
use Rattle.gr_value.specs.KeyBytes.{is_key_byte}
use Rattle.gr_value.specs.KeyFront.{front_from}

below_256 : (byte : ℕ) → is_key_byte byte ≡ true → byte < 256
below_256 byte is = grind arith

pub a_digit_more : (x p r : ℕ) → x < 256 → r < p → x * p + r < 256 * p
a_digit_more x p r x_small r_small =
    let more : suc x ≤ 256 = omega arith in
    omega (arith, mul-le-mul_left p more)

front_below : (n : ℕ) (bytes : List ℕ) → list_all is_key_byte bytes ≡ true → front_from n bytes < 256 ^ n
unfolding front_from
front_below zero bytes all = omega arith
front_below (suc n) [] all = rw (pow-succ' 256 n) (let some = front_below n [] refl in omega arith)
front_below (suc n) (byte ∷ bytes) all =
    let parts = and_parts (is_key_byte byte) (list_all is_key_byte bytes) all in
    rw (pow-succ' 256 n) (a_digit_more byte (256 ^ n) (front_from n bytes) (below_256 byte parts.0) (front_below n bytes parts.1))

-- a digit that counts more decides
less_by_digit : (x y p r s : ℕ) → r < p → x < y → x * p + r < y * p + s
less_by_digit x y p r s small less =
    let more : suc x ≤ y = less in
    omega (arith, mul-le-mul_left p more)

moved : (k r s : ℕ) (o : Ordering) → MatchOrdering o (r < s) (r ≡ s) (s < r) → MatchOrdering o (k + r < k + s) (k + r ≡ k + s) (k + s < k
    + r)
moved k r s Less h = let l : r < s = h in omega arith
moved k r s Equal h = let e : r ≡ s = h in omega arith
moved k r s Greater h = let l : s < r = h in omega arith

by_digits : (x y p r s : ℕ) (rest o : Ordering) → MatchOrdering o (x < y) (x ≡ y) (y < x) → r < p → s < p → x * p + r ≢ y * p + s
    → (r ≢ s → rest ≡ nat_cmp r s) → ordering_then o rest ≡ nat_cmp (x * p + r) (y * p + s)
by_digits x y p r s rest Less h r_small s_small apart then =
    nat_cmp_is (x * p + r) (y * p + s) Less (less_by_digit x y p r s r_small h)
by_digits x y p r s rest Equal h r_small s_small apart then =
    let e : x ≡ y = h in
    then (λ same. apart (ap (λ (n : ℕ). n * p + r) e ∙ ap (λ (n : ℕ). y * p + n) same))
    ∙ nat_cmp_is (x * p + r) (x * p + s) (nat_cmp r s) (moved (x * p) r s (nat_cmp r s) (ranks r s))
    ∙ ap (λ (n : ℕ). nat_cmp (x * p + r) (n * p + s)) e
by_digits x y p r s rest Greater h r_small s_small apart then =
    nat_cmp_is (x * p + r) (y * p + s) Greater (less_by_digit y x p s r s_small h)

pub fronts_order : (n : ℕ) (one two : List ℕ) → list_all is_key_byte one ≡ true → list_all is_key_byte two ≡ true
    → front_from n one ≢ front_from n two → slice_cmp nat_cmp one two ≡ nat_cmp (front_from n one) (front_from n two)
unfolding front_from
fronts_order zero one two all_one all_two apart = absurd (apart refl)
fronts_order (suc n) [] [] all_one all_two apart = absurd (apart refl)
fronts_order (suc n) [] (y ∷ ys) all_one all_two apart =
    let front : ℕ = y * 256 ^ n + front_from n ys in
    let some : 0 < front = omega (arith, apart) in
    nat_cmp_is 0 front Less some
fronts_order (suc n) (x ∷ xs) [] all_one all_two apart =
    let front : ℕ = x * 256 ^ n + front_from n xs in
    let some : 0 < front = omega (arith, apart) in
    nat_cmp_is front 0 Greater some
fronts_order (suc n) (x ∷ xs) (y ∷ ys) all_one all_two apart =
    let xp = and_parts (is_key_byte x) (list_all is_key_byte xs) all_one in
    let yp = and_parts (is_key_byte y) (list_all is_key_byte ys) all_two in
    by_digits x y (256 ^ n) (front_from n xs) (front_from n ys) (slice_cmp nat_cmp xs ys) (nat_cmp x y) (ranks x y)
    (front_below n xs xp.1) (front_below n ys yp.1) apart (fronts_order n xs ys xp.1 yp.1)

counts : (byte n rest : ℕ) → is_key_byte byte ≡ true → 0 ≡ byte * 256 ^ n + rest → ⊥
counts byte n rest is none =
    let some : 1 ≤ byte = grind arith in
    let power : 0 < 256 ^ n = let below = front_below n [] refl in omega arith in
    omega (arith, mul-le-mul_left (256 ^ n) some)

pub same_digit : (x y p r s : ℕ) (o : Ordering) → MatchOrdering o (x < y) (x ≡ y) (y < x) → r < p → s < p → x * p + r ≡ y * p + s → x ≡ y
same_digit x y p r s Less h r_small s_small same = let less = less_by_digit x y p r s r_small h in absurd (omega arith)
same_digit x y p r s Equal h r_small s_small same = h
same_digit x y p r s Greater h r_small s_small same = let less = less_by_digit y x p s r s_small h in absurd (omega arith)

pub same_rest : (x y p r s : ℕ) → x ≡ y → x * p + r ≡ y * p + s → r ≡ s
same_rest x y p r s e same = let products = ap (λ (n : ℕ). n * p) e in omega arith

-- where the fronts are equal, what is behind decides
fronts_alike : (n k : ℕ) (one two : List ℕ) → k ≤ n → list_all is_key_byte one ≡ true → list_all is_key_byte two ≡ true
    → front_from n one ≡ front_from n two → slice_cmp nat_cmp one two ≡ slice_cmp nat_cmp (drop k one) (drop k two)
unfolding front_from
fronts_alike n zero one two le all_one all_two same = refl
fronts_alike zero (suc k) one two le all_one all_two same = absurd (omega arith)
fronts_alike (suc n) (suc k) [] [] le all_one all_two same = refl
fronts_alike (suc n) (suc k) [] (y ∷ ys) le all_one all_two same =
    absurd (counts y n (front_from n ys) (and_parts (is_key_byte y) (list_all is_key_byte ys) all_two).0 same)
fronts_alike (suc n) (suc k) (x ∷ xs) [] le all_one all_two same =
    absurd (counts x n (front_from n xs) (and_parts (is_key_byte x) (list_all is_key_byte xs) all_one).0 (sym same))
fronts_alike (suc n) (suc k) (x ∷ xs) (y ∷ ys) le all_one all_two same =
    let xp = and_parts (is_key_byte x) (list_all is_key_byte xs) all_one in
    let yp = and_parts (is_key_byte y) (list_all is_key_byte ys) all_two in
    let e : x ≡ y = same_digit x y (256 ^ n) (front_from n xs) (front_from n ys) (nat_cmp x y) (ranks x y)
    (front_below n xs xp.1) (front_below n ys yp.1) same in
    let rest : front_from n xs ≡ front_from n ys = same_rest x y (256 ^ n) (front_from n xs) (front_from n ys) e same in
    ap (λ (o : Ordering). ordering_then o (slice_cmp nat_cmp xs ys)) (sym (nat_cmp_is x y Equal e))
    ∙ fronts_alike n k xs ys (omega arith) xp.1 yp.1 rest

all_dropped : (k : ℕ) (bytes : List ℕ) → list_all is_key_byte bytes ≡ true → list_all is_key_byte (drop k bytes) ≡ true
all_dropped zero bytes all = all
all_dropped (suc k) [] all = refl
all_dropped (suc k) (byte ∷ bytes) all = all_dropped k bytes (and_parts (is_key_byte byte) (list_all is_key_byte bytes) all).1

few_order : (one two : List ℕ) (o : Ordering) → list_all is_key_byte one ≡ true → list_all is_key_byte two ≡ true → length one ≤ 8
    → length two ≤ 8
    → MatchOrdering o (front_from 8 one < front_from 8 two) (front_from 8 one ≡ front_from 8 two) (front_from 8 two < front_from 8 one)
    → slice_cmp nat_cmp one two ≡ nat_cmp (front_from 8 one) (front_from 8 two)
few_order one two Less all_one all_two few_one few_two h = fronts_order 8 one two all_one all_two (λ e. omega arith)
few_order one two Equal all_one all_two few_one few_two h =
    fronts_alike 8 8 one two (omega arith) all_one all_two h
    ∙ (λ i. slice_cmp nat_cmp (drop_all 8 one few_one i) (drop_all 8 two few_two i))
    ∙ nat_cmp_is (front_from 8 one) (front_from 8 two) Equal h
few_order one two Greater all_one all_two few_one few_two h = fronts_order 8 one two all_one all_two (λ e. omega arith)

-- Of at most 14 bytes, those behind the sixth decide where the fronts are equal.
pub backs_order : (one two : List ℕ) → list_all is_key_byte one ≡ true → list_all is_key_byte two ≡ true → length one ≤ 14
    → length two ≤ 14 → front_from 8 one ≡ front_from 8 two
    → slice_cmp nat_cmp one two ≡ nat_cmp (front_from 8 (drop 6 one)) (front_from 8 (drop 6 two))
backs_order one two all_one all_two few_one few_two same =
    fronts_alike 8 6 one two (omega arith) all_one all_two same
    ∙ few_order (drop 6 one) (drop 6 two) _ (all_dropped 6 one all_one) (all_dropped 6 two all_two) (simp length-drop (omega arith))
    (simp length-drop (omega arith)) (ranks (front_from 8 (drop 6 one)) (front_from 8 (drop 6 two)))

-- zeros behind the bytes count nothing
front_of_zeros : (n k : ℕ) → front_from n (replicate k 0) ≡ 0
unfolding front_from
front_of_zeros zero k = refl
front_of_zeros (suc n) zero = refl
front_of_zeros (suc n) (suc k) = omega (arith, front_of_zeros n k)

front_padded : (n k : ℕ) (bytes : List ℕ) → front_from n (bytes ++ replicate k 0) ≡ front_from n bytes
unfolding front_from
front_padded zero k bytes = refl
front_padded (suc n) k [] = front_of_zeros (suc n) k
front_padded (suc n) k (byte ∷ bytes) = ap (λ (m : ℕ). byte * 256 ^ n + m) (front_padded n k bytes)

padded_behind : (n at k : ℕ) (bytes : List ℕ) → front_from n (drop at (bytes ++ replicate k 0)) ≡ front_from n (drop at bytes)
padded_behind n zero k bytes = front_padded n k bytes
padded_behind n (suc at) k [] =
    ap (front_from n) (drop-replicate (suc at) k 0) ∙ front_of_zeros n (k - suc at) ∙ sym (front_of_zeros n 0)
padded_behind n (suc at) k (byte ∷ bytes) = padded_behind n at k bytes

-- the bytes from a place on spell in all the room what they spell without the zeros
pub front_of_padded : (n at len k : ℕ) (all : List ℕ) → drop len all ≡ replicate k 0
    → front_from n (drop at all) ≡ front_from n (drop at (take len all))
front_of_padded n at len k all zeros =
    ap (λ (bytes : List ℕ). front_from n (drop at bytes))
    (sym (take-append-drop len all) ∙ ap (λ (tail : List ℕ). take len all ++ tail) zeros)
    ∙ padded_behind n at k (take len all)

-- only so many bytes count
pub front_taken : (n : ℕ) (bytes : List ℕ) → front_from n (take n bytes) ≡ front_from n bytes
unfolding front_from
front_taken zero bytes = refl
front_taken (suc n) [] = refl
front_taken (suc n) (byte ∷ bytes) = ap (λ (m : ℕ). byte * 256 ^ n + m) (front_taken n bytes)

pub eight_digits : (bytes : List ℕ) → 8 ≤ length bytes → front_from 8 bytes ≡ get_or bytes 0 0 * 256 ^ 7 + (get_or bytes 1 0 * 256 ^ 6
    + (get_or bytes 2 0 * 256 ^ 5 + (get_or bytes 3 0 * 256 ^ 4 + (get_or bytes 4 0 * 256 ^ 3 + (get_or bytes 5 0 * 256 ^ 2
    + (get_or bytes 6 0 * 256 ^ 1 + (get_or bytes 7 0 * 256 ^ 0 + 0)))))))
unfolding front_from
eight_digits (a ∷ b ∷ c ∷ d ∷ e ∷ f ∷ g ∷ h ∷ more) long = refl
eight_digits _ long = absurd (omega arith)

pub eight_taken : (bytes first : List ℕ) → 8 ≤ length bytes → first ≡ take 8 bytes
    → (8 ≤ length first) × (front_from 8 first ≡ front_from 8 bytes)
eight_taken bytes first long e =
    (omega (arith, ap length e, length-take-le 8 bytes long), ap (front_from 8) e ∙ front_taken 8 bytes)

-- What is left of two keys' bytes is in the order of the keys.
pub record IsLeft (one two left right : List ℕ) : Type 0 where
  pub left_bytes : list_all is_key_byte left ≡ true
  pub right_bytes : list_all is_key_byte right ≡ true
  pub order : slice_cmp nat_cmp one two ≡ slice_cmp nat_cmp left right

eight_dropped : (bytes : List ℕ) → take (length bytes - 8) (drop 8 bytes) ≡ drop 8 bytes
eight_dropped bytes = take_all (length bytes - 8) (drop 8 bytes) (omega (arith, length-drop 8 bytes))

pub eight_left : (one two left right : List ℕ) → IsLeft one two left right → front_from 8 left ≡ front_from 8 right
    → IsLeft one two (take (length left - 8) (drop 8 left)) (take (length right - 8) (drop 8 right))
eight_left one two left right h same = rw (eight_dropped left, eight_dropped right) (record {
  left_bytes = all_dropped 8 left h.left_bytes;
  right_bytes = all_dropped 8 right h.right_bytes;
  order = h.order ∙ fronts_alike 8 8 left right (omega arith) h.left_bytes h.right_bytes same;
})
