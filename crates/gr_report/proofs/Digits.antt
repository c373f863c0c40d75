-- Digits of numbers that have few.
use Rattle.std.proofs.Common.{◌≡◌, ℕ, ◌+◌, ◌*◌, ◌/◌, ◌%◌, ◌<◌, List, [], ◌∷◌, ◌++◌, decimal, ap, sym, slice_index_or}
use Rattle.std.proofs.lemmas.Fmt.{decimal_digit}
use Rattle.itoa.proofs.Decimal.{PAIRS_at}
use Rattle.gr_report.specs.declared.decimals.TheConstants.{PAIRS}

pub one_digit : (text : List ℕ) (n : ℕ) → n < 10 → text ++ (48 + n) ∷ [] ≡ text ++ decimal n
one_digit text n few = ap (λ (digits : List ℕ). text ++ digits) (sym (decimal_digit n few))

-- The table of pairs is itoa's.
pub tens_at : (pair : ℕ) → pair < 100 → slice_index_or PAIRS (pair * 2) 0 ≡ 48 + pair / 10
tens_at pair few = (PAIRS_at pair few).0

pub ones_at : (pair : ℕ) → pair < 100 → slice_index_or PAIRS (pair * 2 + 1) 0 ≡ 48 + pair % 10
ones_at pair few = (PAIRS_at pair few).1
