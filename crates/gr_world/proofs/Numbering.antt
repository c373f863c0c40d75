-- The reports that are kept, and their numbers.
use Rattle.std.proofs.Common.{◌≡◌, ◌∙◌, ap, sym, refl, ℕ, zero, suc, ◌-◌, ◌≤◌, List, [], ◌∷◌, ◌++◌, false, ◌==◌}
use Rattle.std.proofs.Common.{if◌then◌else◌, length, reverse, arith}
use Rattle.std.specs.Prelude.{Some, None, slice_get}
use Rattle.std.proofs.lemmas.Bool.Decides.{nat_tests}
use Rattle.std.proofs.lemmas.List.{length-reverse}
use Rattle.std.proofs.lemmas.Grind.{reverse_onto}
use Rattle.gr_vector.specs.declared.report.Report.{Report}
use Rattle.gr_world.specs.Named.{numbered}

get-append : (xs : List Report) (x : Report) (k : ℕ) → slice_get (xs ++ x ∷ []) k ≡ (if length xs == k then Some x else slice_get xs k)
get-append [] x zero = refl
get-append [] x (suc k) = ap (λ b. if b then Some x else None) (sym (apart k))
  where
    apart : (n : ℕ) → (0 == suc n) ≡ false
    apart n = grind (arith, nat_tests)
get-append (y ∷ xs) x zero = ap (λ b. if b then Some x else Some y) (sym (apart (length xs)))
  where
    apart : (n : ℕ) → (suc n == 0) ≡ false
    apart n = grind (arith, nat_tests)
get-append (y ∷ xs) x (suc k) = get-append xs x k ∙ ap (λ b. if b then Some x else slice_get xs k) (alike (length xs) k)
  where
    alike : (m n : ℕ) → (m == n) ≡ (suc m == suc n)
    alike m n = grind (arith, nat_tests)

-- The report of a number is found at its place, counted from the oldest.
pub numbered_at : (number : ℕ) (reports : List Report) → 1 ≤ number → slice_get (reverse reports) (number - 1) ≡ numbered number reports
numbered_at number [] some = refl
numbered_at number (report ∷ older) some =
    ap (λ xs. slice_get xs (number - 1)) (reverse_onto older report [])
    ∙ get-append (reverse older) report (number - 1)
    ∙ ap (λ b. if b then Some report else slice_get (reverse older) (number - 1)) (same (length (reverse older)) (length older)
    (length-reverse older))
    ∙ ap (λ o. if suc (length older) == number then Some report else o) (numbered_at number older some)
  where
    same : (m n : ℕ) → m ≡ n → (m == number - 1) ≡ (suc n == number)
    same m n is = grind (arith, nat_tests)

pub none_numbered : (reports : List Report) → numbered 0 reports ≡ None
none_numbered [] = refl
none_numbered (report ∷ older) =
    ap (λ b. if b then Some report else numbered 0 older) (apart (length older)) ∙ none_numbered older
  where
    apart : (n : ℕ) → (suc n == 0) ≡ false
    apart n = grind (arith, nat_tests)
