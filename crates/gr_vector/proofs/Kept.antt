-- A member's numbers by its blocks, with the greatest and the one up to which all are held.
use Rattle.std.proofs.Common.{◌≡◌, ℕ, zero, suc, ◌+◌, ◌<◌, ◌≤◌, List, [], Bool, true, false, ◌&&◌, ltb, leb, refl, sym, ◌∙◌}
use Rattle.std.proofs.Common.{subst, arith}
use Rattle.std.proofs.lemmas.Bool.Decides.{nat_tests}
use Rattle.gr_vector.specs.declared.block.Block.{Block}
use Rattle.gr_vector.specs.Blocks.{is_noted, holds, holds_upto, ends_upto, IsKept}
use Rattle.gr_vector.proofs.Counts.{ends_same}

pub kept_empty : IsKept [] 0 0
kept_empty = record {
  ascending = tt;
  most = omega arith;
  greatest = λ k. absurd (omega (arith, k));
  beyond = λ v k. refl;
  within = omega arith;
  front = λ v h k. absurd (omega (arith, h, k));
  next = refl;
}

pub holds_is : (v : ℕ) (blocks : List Block) (top all spare : ℕ) → IsKept blocks top all
    → holds v (record { blocks = blocks; top = top; spare = spare }) ≡ (ltb 0 v && is_noted v blocks)
holds_is v blocks top all spare kept = at_most (is_noted v blocks) (kept.beyond v)
  where
    at_most : (m : Bool) → (top < v → m ≡ false) → (ltb 0 v && (leb v top && m)) ≡ (ltb 0 v && m)
    at_most m h = grind (arith, nat_tests)

pub holds_some : (v : ℕ) (blocks : List Block) (top all spare : ℕ) → IsKept blocks top all → 1 ≤ v
    → holds v (record { blocks = blocks; top = top; spare = spare }) ≡ is_noted v blocks
holds_some v blocks top all spare kept some = holds_is v blocks top all spare kept ∙ there v (is_noted v blocks) some
  where
    there : (a : ℕ) (b : Bool) → 1 ≤ a → (ltb 0 a && b) ≡ b
    there a b h = grind (arith, nat_tests)

pub covers_is : (upto : ℕ) (blocks : List Block) (top all spare : ℕ) → IsKept blocks top all
    → leb upto all ≡ holds_upto upto (record { blocks = blocks; top = top; spare = spare })
covers_is zero blocks top all spare kept = none all
  where
    none : (a : ℕ) → leb 0 a ≡ true
    none a = grind (arith, nat_tests)
covers_is (suc n) blocks top all spare kept =
    step (is_noted (suc n) blocks) (holds (suc n) (record { blocks = blocks; top = top; spare = spare })) _
    (holds_some (suc n) blocks top all spare kept (omega arith)) (covers_is n blocks top all spare kept)
    (kept.front (suc n) (omega arith)) (λ e. subst (λ z. is_noted z blocks ≡ false) (sym e) kept.next)
  where
    step : (m h c : Bool) → h ≡ m → leb n all ≡ c → (suc n ≤ all → m ≡ true) → (suc n ≡ all + 1 → m ≡ false) → leb (suc n) all ≡ (h && c)
    step m h c is e here past = grind (arith, nat_tests)

pub top_held : (blocks : List Block) (top all spare : ℕ) → IsKept blocks top all → 1 ≤ top
    → holds top (record { blocks = blocks; top = top; spare = spare }) ≡ true
top_held blocks top all spare kept some = holds_some top blocks top all spare kept some ∙ kept.greatest some

pub ends_is : (blocks : List Block) (top all spare : ℕ) → IsKept blocks top all
    → ends_upto top (λ v. is_noted v blocks) ≡ ends_upto top (λ v. holds v (record { blocks = blocks; top = top; spare = spare }))
ends_is blocks top all spare kept =
    ends_same top (λ v. is_noted v blocks) (λ v. holds v (record { blocks = blocks; top = top; spare = spare }))
    (λ v some. sym (holds_some v blocks top all spare kept some))
