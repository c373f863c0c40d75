use Rattle.std.proofs.Common.{◌≡◌, ◌≤◌, ◌+◌, ℕ, sym, subst, arith, suc, get_or, drop}
use Rattle.std.proofs.lemmas.List.{drop_all}
use Rattle.gr_vector.specs.Blocks.{AllAbove}
use Rattle.gr_vector.proofs.Places.{behind_at, above_from, ascending_drop}
use Rattle.gr_vector.proofs.Edits.{steady}
use Rattle.gr_vector.proofs.blocks.skipped.Goals as goal
use Rattle.gr_vector.proofs.blocks.skipped.Goals.{else-count-gt0-via-then-count-gt0+else-after-blocks-lt-OWN, else-count-gt0-via-else-count-gt0}

pub returns-then-count-blocks-clause-steady : goal.returns-then-count-blocks-clause-steady
returns-then-count-blocks-clause-steady c = λ v later lt.
    let n = c.count_upto-count.result in
    let far : (k : ℕ) → k + 1 ≡ n → (get_or c.args.blocks.now k (record { first = 0; bits = 0 })).first + 63 ≤ v =
    elim c.else-count-gt0.branch [
      | else-count-gt0-via-then-count-gt0+else-after-blocks-lt-OWN w ↦ behind_at
          (λ k. (get_or c.args.blocks.now k (record { first = 0; bits = 0 })).first + 63 ≤ v) n
          (λ some. omega (arith, later, w.if-after-blocks-lt-OWN.false))
      | else-count-gt0-via-else-count-gt0 w ↦ λ k e. absurd (omega (arith, e, w.if-count-gt0.false))
    ] in
    steady v n c.args.blocks.now (record { first = 0; bits = 0 }) c.count_upto-count.ensures.within
    (above_from (suc v) (get_or c.args.blocks.now n (record { first = 0; bits = 0 })).first (drop n c.args.blocks.now) (omega (arith, lt))
    (ascending_drop 0 n c.args.blocks.now (record { first = 0; bits = 0 }) c.if-count-blocks.true c.requires.ascending))
    far

pub returns-else-count-blocks-clause-steady : goal.returns-else-count-blocks-clause-steady
returns-else-count-blocks-clause-steady c = λ v later lt.
    let n = c.count_upto-count.result in
    let far : (k : ℕ) → k + 1 ≡ n → (get_or c.args.blocks.now k (record { first = 0; bits = 0 })).first + 63 ≤ v =
    elim c.else-count-gt0.branch [
      | else-count-gt0-via-then-count-gt0+else-after-blocks-lt-OWN w ↦ behind_at
          (λ k. (get_or c.args.blocks.now k (record { first = 0; bits = 0 })).first + 63 ≤ v) n
          (λ some. omega (arith, later, w.if-after-blocks-lt-OWN.false))
      | else-count-gt0-via-else-count-gt0 w ↦ λ k e. absurd (omega (arith, e, w.if-count-gt0.false))
    ] in
    steady v n c.args.blocks.now (record { first = 0; bits = 0 }) c.count_upto-count.ensures.within
    (subst (λ xs. AllAbove (suc v) xs) (sym (drop_all n c.args.blocks.now c.if-count-blocks.false)) tt)
    far
