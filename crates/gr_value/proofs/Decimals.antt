-- A digit behind a number's digits.
use Rattle.std.proofs.Common.{◌≡◌, ◌∙◌, ap, sym, ℕ, ◌+◌, ◌*◌, ◌/◌, ◌%◌, ◌^◌, ◌<◌, ◌≤◌}
use Rattle.std.proofs.Common.{arith, List, [], ◌∷◌, ◌++◌, map, decimal, append_assoc}
use Rattle.std.proofs.lemmas.Fmt.{decimal_digit, decimal-digits_of}
use Rattle.std.proofs.lemmas.Int.Digits.{digits_of_step}
use Rattle.std.proofs.lemmas.List.{map-append}
use Rattle.std.specs.Int.Digits.{digits_of}

decimal_more : (m d : ℕ) → 1 ≤ m → d < 10 → m * 10 + d < 2 ^ 64 → decimal m ++ (48 + d) ∷ [] ≡ decimal (m * 10 + d)
decimal_more m d some digit fits =
    let n = m * 10 + d in
    let front : n / 10 ≡ m = omega (arith, digit) in
    let last : n % 10 ≡ d = omega (arith, digit) in
    let glyph : ℕ → ℕ = λ d. 48 + d in
    let split : digits_of 10 n ≡ digits_of 10 m ++ (d ∷ []) = digits_of_step 10 n (omega arith) (omega arith)
    ∙ (λ i. digits_of 10 (front i) ++ (last i ∷ [])) in
    sym (decimal-digits_of n (omega arith) fits ∙ ap (map glyph) split ∙ map-append glyph (digits_of 10 m) (d ∷ [])
    ∙ ap (λ digits. digits ++ (48 + d) ∷ []) (sym (decimal-digits_of m (omega arith) (omega arith))))

-- one digit before what is left, as a number and what is left behind its last digit
pub digit_alone : (bytes rest : List ℕ) (d : ℕ) → d < 10 → bytes ≡ (48 + d) ∷ rest → bytes ≡ decimal d ++ rest
digit_alone bytes rest d digit is = is ∙ ap (λ (digits : List ℕ). digits ++ rest) (sym (decimal_digit d digit))

-- one more digit is taken
pub digit_taken : (before rest behind : List ℕ) (m d : ℕ) → before ≡ decimal m ++ rest → rest ≡ (48 + d) ∷ behind → 1 ≤ m → d < 10
    → m * 10 + d < 2 ^ 64 → before ≡ decimal (m * 10 + d) ++ behind
digit_taken before rest behind m d so_far is some digit fits =
    so_far ∙ ap (λ left. decimal m ++ left) is ∙ sym (append_assoc (decimal m) ((48 + d) ∷ []) behind)
    ∙ ap (λ (digits : List ℕ). digits ++ behind) (decimal_more m d some digit fits)
