-- Few bytes are the same where their first eight and those behind the sixth spell the same numbers.
use Rattle.std.proofs.Common.{◌≡◌, ◌∙◌, ap, refl, sym, ℕ, zero, suc, ◌^◌, ◌<◌, arith, List, [], ◌∷◌, ◌++◌}
use Rattle.std.proofs.Common.{◌-◌, length, take, drop, replicate, get_or, Bool, true, ◌&&◌, nat_eq, bytes_eq}
use Rattle.std.proofs.Math.Nat.{pow-succ'}
use Rattle.std.specs.Cmp.{ranks}
use Rattle.std.specs.Ordering.{nat_cmp}
use Rattle.std.proofs.lemmas.List.{take-append-drop, length-drop, length-take-le, take_all, take-take}
use Rattle.std.proofs.lemmas.Bool.{and_parts}
use Rattle.std.proofs.lemmas.Bool.Decides.{same_from_decides, Decides-eqb}
use Rattle.std.proofs.lemmas.Slice.Eq.{bytes_eq-Decides}
use Rattle.gr_value.specs.KeyFront.{front_from, front_of, IsPadded}
use Rattle.gr_value.proofs.KeyFronts.{a_digit_more, same_digit, same_rest}

abbrev pub AreBytes : List ℕ → Type 0
AreBytes bytes = (i : ℕ) → get_or bytes i 0 < 256

below : (n : ℕ) (bytes : List ℕ) → AreBytes bytes → front_from n bytes < 256 ^ n
unfolding front_from
below zero bytes are = omega arith
below (suc n) [] are = rw (pow-succ' 256 n) (let some = below n [] are in omega arith)
below (suc n) (byte ∷ bytes) are =
    rw (pow-succ' 256 n) (a_digit_more byte (256 ^ n) (front_from n bytes) (are 0) (below n bytes (λ i. are (suc i))))

fronts_alike : (n : ℕ) (one two : List ℕ) → AreBytes one → AreBytes two → length one ≡ length two → front_from n one ≡ front_from n two
    → take n one ≡ take n two
unfolding front_from
fronts_alike zero one two are_one are_two long same = refl
fronts_alike (suc n) [] [] are_one are_two long same = refl
fronts_alike (suc n) [] (y ∷ ys) are_one are_two long same = absurd (omega (arith, long))
fronts_alike (suc n) (x ∷ xs) [] are_one are_two long same = absurd (omega (arith, long))
fronts_alike (suc n) (x ∷ xs) (y ∷ ys) are_one are_two long same =
    let e : x ≡ y = same_digit x y (256 ^ n) (front_from n xs) (front_from n ys) (nat_cmp x y) (ranks x y)
    (below n xs (λ i. are_one (suc i))) (below n ys (λ i. are_two (suc i))) same in
    let rest : front_from n xs ≡ front_from n ys = same_rest x y (256 ^ n) (front_from n xs) (front_from n ys) e same in
    let tails = fronts_alike n xs ys (λ i. are_one (suc i)) (λ i. are_two (suc i)) (omega (arith, long)) rest in
    λ i. e i ∷ tails i

dropped : (n : ℕ) (bytes : List ℕ) → AreBytes bytes → AreBytes (drop n bytes)
dropped zero bytes are = are
dropped (suc n) [] are = are
dropped (suc n) (byte ∷ bytes) are = dropped n bytes (λ i. are (suc i))

alike : (one two : List ℕ) → AreBytes one → AreBytes two → length one ≡ 14 → length two ≡ 14
    → front_from 8 one ≡ front_from 8 two → front_from 8 (drop 6 one) ≡ front_from 8 (drop 6 two) → one ≡ two
alike one two are_one are_two long_one long_two fronts backs =
    let heads : take 8 one ≡ take 8 two = fronts_alike 8 one two are_one are_two (omega (arith, long_one, long_two)) fronts in
    let tails : take 8 (drop 6 one) ≡ take 8 (drop 6 two) =
    fronts_alike 8 (drop 6 one) (drop 6 two) (dropped 6 one are_one) (dropped 6 two are_two)
    (omega (arith, length-drop 6 one, length-drop 6 two, long_one, long_two)) backs in
    let all_one : take 8 (drop 6 one) ≡ drop 6 one = take_all 8 (drop 6 one) (omega (arith, length-drop 6 one, long_one)) in
    let all_two : take 8 (drop 6 two) ≡ drop 6 two = take_all 8 (drop 6 two) (omega (arith, length-drop 6 two, long_two)) in
    let front : take 6 one ≡ take 6 two = sym (take-take 6 8 one (omega arith)) ∙ ap (take 6) heads ∙ take-take 6 8 two (omega arith) in
    sym (take-append-drop 6 one)
    ∙ (λ i. front i ++ (sym all_one ∙ tails ∙ all_two) i)
    ∙ take-append-drop 6 two

pub behind : (bytes : List ℕ) → take (length bytes - 6) (drop 6 bytes) ≡ drop 6 bytes
behind bytes = take_all (length bytes - 6) (drop 6 bytes) (omega (arith, length-drop 6 bytes))

pub same_is : (one two : List ℕ) → AreBytes one → AreBytes two → length one ≡ 14 → length two ≡ 14
    → (nat_eq (front_of one) (front_of two) && nat_eq (front_of (drop 6 one)) (front_of (drop 6 two))) ≡ bytes_eq one two
same_is one two are_one are_two long_one long_two =
    same_from_decides (fronts && backs) (bytes_eq one two) (are_same, is_same) (bytes_eq-Decides one two)
  where
    fronts : Bool
    fronts = nat_eq (front_of one) (front_of two)

    backs : Bool
    backs = nat_eq (front_of (drop 6 one)) (front_of (drop 6 two))

    are_same : (fronts && backs) ≡ true → one ≡ two
    are_same e =
        let both = and_parts fronts backs e in
        alike one two are_one are_two long_one long_two ((Decides-eqb _ _).0 both.0) ((Decides-eqb _ _).0 both.1)

    is_same : one ≡ two → (fronts && backs) ≡ true
    is_same e =
        rw ((Decides-eqb _ _).1 (ap front_of e), (Decides-eqb _ _).1 (ap (λ (bytes : List ℕ). front_of (drop 6 bytes)) e)) refl

-- ---- with zeros behind the bytes

pub near_is : (len_one len_two : ℕ) (all_one all_two : List ℕ) → length all_one ≡ 14 → length all_two ≡ 14
    → IsPadded len_one all_one → IsPadded len_two all_two
    → (nat_eq len_one len_two && bytes_eq all_one all_two) ≡ bytes_eq (take len_one all_one) (take len_two all_two)
near_is len_one len_two all_one all_two long_one long_two padded_one padded_two =
    same_from_decides (lens && alls) (bytes_eq one two) (are_same, is_same) (bytes_eq-Decides one two)
  where
    one : List ℕ
    one = take len_one all_one

    two : List ℕ
    two = take len_two all_two

    lens : Bool
    lens = nat_eq len_one len_two

    alls : Bool
    alls = bytes_eq all_one all_two

    are_same : (lens && alls) ≡ true → one ≡ two
    are_same e =
        let both = and_parts lens alls e in
        let len : len_one ≡ len_two = (Decides-eqb _ _).0 both.0 in
        let all : all_one ≡ all_two = (bytes_eq-Decides all_one all_two).0 both.1 in
        λ i. take (len i) (all i)

    is_same : one ≡ two → (lens && alls) ≡ true
    is_same e =
        let len : len_one ≡ len_two =
        omega (
          arith,
          ap length e,
          length-take-le len_one all_one (omega (arith, long_one, padded_one.few)),
          length-take-le len_two all_two (omega (arith, long_two, padded_two.few)),
        ) in
        let zeros : drop len_one all_one ≡ drop len_two all_two =
        padded_one.zeros ∙ ap (λ n. replicate (14 - n) 0) len ∙ sym padded_two.zeros in
        let all : all_one ≡ all_two =
        sym (take-append-drop len_one all_one) ∙ (λ i. e i ++ zeros i) ∙ take-append-drop len_two all_two in
        rw ((Decides-eqb _ _).1 len, (bytes_eq-Decides all_one all_two).1 all) refl
