-- The decimal text of a number is no longer than the text that it was read from.
use Rattle.std.proofs.Common.{◌≡◌, ◌∙◌, ℕ, zero, suc, ◌+◌, ◌-◌, ◌^◌, ◌<◌, ◌≤◌, Bool, true, false, cond, not, ◌&&◌, ◌==◌, nat_lt, nat_le}
use Rattle.std.proofs.Common.{List, [], ◌∷◌, ◌++◌, length, take, Option, Some, None, MatchOption, pos, neg_ℤ, decimal, refl, sym, ap}
use Rattle.std.proofs.Common.{subst, arith, append-nil, length-take}
use Rattle.std.proofs.lemmas.Bool.{true≢false, false≢true, and_parts, leb-true, ltb-true}
use Rattle.std.proofs.lemmas.Fmt.{length-decimal-le}
use Rattle.std.proofs.lemmas.Str.{digit_value_digit}
use Rattle.std.proofs.lemmas.Int.Digits.{digits_value-lt}
use Rattle.std.specs.Char.{is_ascii_digit, digit_value}
use Rattle.std.specs.Float.{binary64, float_is_finite}
use Rattle.std.specs.Float.Numeral.{Parts, scan_numeral as scan, numeral_digits as digits_of, nearest_float as nearest}
use Rattle.std.specs.Fmt.{signed_decimal}
use Rattle.std.specs.List.{prefix_len}
use Rattle.std.specs.Prelude.{⊤}
use Rattle.std.specs.Str.Parse.{AllDigits}
use Rattle.serde_json.specs.Data.{Num, unsigned, negative, float}
use Rattle.serde_json.specs.Read.{is_integer, float_of, number_from, number_of}
use Rattle.serde_json.specs.Written.{number_text}

abbrev pub NumberFits : ℕ → Option Num → Type 0
NumberFits n found = MatchOption found ⊤ (λ number. length (number_text number) ≤ n)

record HasDigits (n : ℕ) (p : Parts) : Type 0 where
  digits : AllDigits 10 p.whole
  whole : p.point ≡ false → p.fraction ≡ []
  fits : length p.whole ≤ n

digit_small : (x : ℕ) → is_ascii_digit x ≡ true → digit_value x < 10
digit_small x h =
    let both = and_parts (nat_le 48 x) (nat_le x 57) h in
    let low : 48 ≤ x = leb-true 48 x both.0 in
    let high : x ≤ 57 = leb-true x 57 both.1 in
    omega (arith, digit_value_digit x (low, high))

front_digits : (t : List ℕ) → AllDigits 10 (take (prefix_len is_ascii_digit t) t)
front_digits [] = tt
front_digits (x ∷ xs) = go (is_ascii_digit x) (digit_small x) (front_digits xs)
  where
    go : (b : Bool) → (b ≡ true → digit_value x < 10) → AllDigits 10 (take (prefix_len is_ascii_digit xs) xs)
        → AllDigits 10 (take (cond b (1 + prefix_len is_ascii_digit xs) 0) (x ∷ xs))
    go true f h = let e : 1 + prefix_len is_ascii_digit xs ≡ suc (prefix_len is_ascii_digit xs) = omega arith in
        subst (λ k. AllDigits 10 (take k (x ∷ xs))) (sym e) (f refl, h)
    go false f h = tt

no_fraction : (b : Bool) (xs : List ℕ) → b ≡ false → cond b xs [] ≡ []
no_fraction true xs e = absurd (true≢false e)
no_fraction false xs e = refl

scanned : (t : List ℕ) → HasDigits (length t) (scan t)
unfolding scan
scanned t =
    let n = prefix_len is_ascii_digit t in
    let e : (0 + n) - 0 ≡ n = omega arith in
    record {
      digits = subst (λ k. AllDigits 10 (take k t)) (sym e) (front_digits t);
      whole = no_fraction _ _;
      fits =
          omega (arith, length-take {A = ℕ} (0 + n - 0) t);
    }

float_fits : (n : ℕ) (sign : Bool) (p : Parts) → NumberFits n (float_of sign p)
float_fits n sign p = go (float_is_finite (nearest binary64 sign p))
  where
    go : (b : Bool) → NumberFits n (cond b (Some (float (nearest binary64 sign p))) None)
    go true = omega arith
    go false = tt

not-true : (b : Bool) → not b ≡ true → b ≡ false
not-true true e = absurd (false≢true e)
not-true false e = refl

integer_len : (n : ℕ) (p : Parts) → HasDigits n p → is_integer p ≡ true → digits_of p < 2 ^ 64 → length (decimal (digits_of p)) ≤ n
integer_len n p h e small =
    let first = and_parts (nat_lt 0 (length p.whole) && not p.point) _ e in
    let second = and_parts (nat_lt 0 (length p.whole)) (not p.point) first.0 in
    let none : p.whole ++ p.fraction ≡ p.whole = ap (λ rest. p.whole ++ rest) (h.whole (not-true p.point second.1)) ∙ append-nil p.whole in
    let digits : AllDigits 10 (p.whole ++ p.fraction) = subst (AllDigits 10) (sym none) h.digits in
    let below : digits_of p < 10 ^ length p.whole =
    subst (λ ds. digits_of p < 10 ^ length ds) none (digits_value-lt 10 (p.whole ++ p.fraction) digits) in
    omega (arith, length-decimal-le (length p.whole) (digits_of p) (ltb-true 0 (length p.whole) second.0) below small, h.fits)

either : (n : ℕ) (b : Bool) (x y : Option Num) → (b ≡ true → NumberFits n x) → NumberFits n y → NumberFits n (cond b x y)
either n true x y f g = f refl
either n false x y f g = g

unsigned_fits : (n : ℕ) (p : Parts) → HasDigits n p → NumberFits n (number_from false p)
unsigned_fits n p h = either n _ (Some (unsigned (digits_of p))) _ (λ e.
    let both = and_parts (is_integer p) (nat_lt (digits_of p) (2 ^ 64)) e in
    integer_len n p h both.0 (ltb-true _ _ both.1)) (float_fits n false p)

negative_len : (k : ℕ) → 0 < k → length (signed_decimal (neg_ℤ (pos k))) ≤ 1 + length (decimal k)
negative_len zero h = absurd (omega arith)
negative_len (suc k) h = omega arith

negative_fits : (n : ℕ) (p : Parts) → HasDigits n p → NumberFits (1 + n) (number_from true p)
negative_fits n p h = either (1 + n) _ (Some (negative (neg_ℤ (pos (digits_of p))))) _ (λ e.
    let both = and_parts (is_integer p && nat_lt 0 (digits_of p)) (nat_le (digits_of p) (2 ^ 63)) e in
    let first = and_parts (is_integer p) (nat_lt 0 (digits_of p)) both.0 in
    let most : digits_of p ≤ 2 ^ 63 = leb-true _ _ both.1 in
    omega (arith, integer_len n p h first.0 (omega arith), negative_len (digits_of p) (ltb-true _ _ first.1))) (float_fits (1 + n) true p)

pub number_fits : (text : List ℕ) → NumberFits (length text) (number_of text)
unfolding number_of
number_fits [] = unsigned_fits 0 (scan []) (scanned [])
number_fits (x ∷ xs) = go (x == 45)
  where
    go : (b : Bool) → NumberFits (suc (length xs)) (cond b (number_from true (scan xs)) (number_from false (scan (x ∷ xs))))
    go true = let e : 1 + length xs ≡ suc (length xs) = omega arith in
        subst (λ n. NumberFits n (number_from true (scan xs))) e (negative_fits (length xs) (scan xs) (scanned xs))
    go false = unsigned_fits (suc (length xs)) (scan (x ∷ xs)) (scanned (x ∷ xs))
