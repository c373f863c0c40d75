-- A number is read from its decimal digits.
use Rattle.std.proofs.Common.{◌≡◌, ℕ, ◌+◌, ◌-◌, ◌*◌, ◌/◌, ◌%◌, ◌^◌, ◌<◌, ◌≤◌, List, [], ◌∷◌, ◌++◌, length, true, cond}
use Rattle.std.proofs.Common.{leb, Some, None, get_or, decimal, refl, ap, ◌∙◌, arith, length-append}
use Rattle.std.specs.List.{list_all}
use Rattle.std.specs.Char.{is_ascii_digit}
use Rattle.std.proofs.lemmas.Bool.{and_from, le-leb}
use Rattle.std.proofs.lemmas.Fmt.{decimal_digit, decimal_by_steps_wide, length-decimal-le_wide}
use Rattle.std.proofs.lemmas.List.Folds.{list_all-append}
use Rattle.std.proofs.lemmas.List.Sums.{fold-append}
use Rattle.std.proofs.Math.ListN.{get_or-append}
use Rattle.gr_script.specs.Numerals.{begins_number, worth, number_of}

pub record Spells (number : ℕ) (digits : List ℕ) : Type 0 where
  pub each : list_all is_ascii_digit digits ≡ true
  pub value : worth digits ≡ number
  pub some : 0 < length digits
  pub first : 0 < number → 48 < get_or digits 0 0

digit : (n : ℕ) → n < 10 → is_ascii_digit (48 + n) ≡ true
digit n few = grind arith

one_digit : (n : ℕ) → n < 10 → Spells n ((48 + n) ∷ [])
one_digit n few = record {
  each = and_from _ _ (digit n few) refl;
  value = omega arith;
  some = omega arith;
  first = λ some. omega arith;
}

digit_more : (n : ℕ) (digits : List ℕ) → 10 ≤ n → Spells (n / 10) digits → Spells n (digits ++ (48 + n % 10) ∷ [])
digit_more n digits more h = record {
  each = list_all-append is_ascii_digit digits _ ∙ and_from _ _ h.each (and_from _ _ (digit (n % 10) (omega arith)) refl);
  value = fold-append (λ number digit. number * 10 + (digit - 48)) 0 digits ((48 + n % 10) ∷ []) ∙ omega (arith, h.value);
  some = omega (arith, length-append digits ((48 + n % 10) ∷ []));
  first = λ some. omega (arith, get_or-append digits ((48 + n % 10) ∷ []) 0 0 h.some, h.first (omega arith));
}

pub decimal_spells : (n : ℕ) → n < 10 ^ 20 → Spells n (decimal n)
decimal_spells n few = decimal_by_steps_wide Spells one_digit digit_more n (omega arith)

begins : (n : ℕ) (digits : List ℕ) → Spells n digits → (n ≡ 0 → length digits ≡ 1) → begins_number digits ≡ true
begins n [] h zero = absurd (omega (arith, h.some))
begins n (first ∷ more) h zero = grind (arith, h.first, zero)

pub number_back : (n : ℕ) → n < 10 ^ 20 → number_of (decimal n) ≡ Some n
number_back n few =
    let h = decimal_spells n few in
    let begun : begins_number (decimal n) ≡ true =
    begins n (decimal n) h (λ e. ap (λ m. length (decimal m)) e ∙ ap (length {A = ℕ}) (decimal_digit 0 (omega arith))) in
    let short : leb (length (decimal n)) 20 ≡ true = le-leb _ _ (length-decimal-le_wide 20 n (omega arith) few (omega arith)) in
    ap (λ b. cond b (Some (worth (decimal n))) None) (and_from _ _ (and_from _ _ begun short) h.each) ∙ ap (λ m. Some m) h.value
