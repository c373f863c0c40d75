use Rattle.std.proofs.Common.{◌≡◌, ℕ, false, ◌&&◌, ltb, leb, Bool, sym, subst, arith}
use Rattle.std.proofs.lemmas.Bool.Decides.{nat_tests}
use Rattle.gr_vector.specs.Blocks.{IsKept, is_noted}
use Rattle.gr_vector.proofs.Kept.{kept_empty}
use Rattle.gr_vector.proofs.numbers.Numbers.new.Goals as goal

nobody : (v : ℕ) (m : Bool) → (ltb 0 v && (leb v 0 && m)) ≡ false
nobody v m = grind (arith, nat_tests)

pub invariant_of-result : goal.invariant_of-result
invariant_of-result c = subst (λ xs. IsKept xs 0 0) (sym c.new.ensures.items) kept_empty

pub returns : goal.returns
returns c = λ v. nobody v (is_noted v c.new.result.items)
