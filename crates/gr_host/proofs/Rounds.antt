-- Givers one after the other, and shards one after the other.
use Rattle.std.proofs.Common.{◌≡◌, ℕ, ◌+◌, ◌<◌, ◌≤◌, ◌==◌, ◌&&◌, ◌||◌, Bool, true, false, List, length, refl, sym, ap, ◌∙◌, arith}
use Rattle.std.specs.Prelude.{nat_lt, nat_le}
use Rattle.std.proofs.lemmas.Bool.Decides.{nat_tests}
use Rattle.gr_run_law.proofs.Lists.{true_false}
use Rattle.gr_member.specs.declared.plan.Plan.{Plan}
use Rattle.gr_member.specs.Seats.{Place}
use Rattle.gr_host.specs.Houses.{IsOther}
use Rattle.gr_host.specs.Joins.{Joined, JoinedWhere}
use Rattle.gr_host.proofs.Parts.{joined_none, joined_same, joined_both}

-- ---- tests

le_next : (g n : ℕ) → (nat_le g n || g == n + 1) ≡ nat_le g (n + 1)
le_next g n = grind (arith, nat_tests)

lt_next : (k n : ℕ) → (nat_lt k n || k == n) ≡ nat_lt k (n + 1)
lt_next k n = grind (arith, nat_tests)

le_none : (g : ℕ) → 1 ≤ g → nat_le g 0 ≡ false
le_none g h = grind (arith, nat_tests)

lt_none : (k : ℕ) → nat_lt k 0 ≡ false
lt_none k = grind (arith, nat_tests)

le_all : (g n : ℕ) → g ≤ n → nat_le g n ≡ true
le_all g n h = grind (arith, nat_tests)

lt_all : (k n : ℕ) → k < n → nat_lt k n ≡ true
lt_all k n h = grind (arith, nat_tests)

le_apart : (g n : ℕ) → nat_le g n ≡ true → (g == n + 1) ≡ false
le_apart g n h = grind (arith, nat_tests)

lt_apart : (k n : ℕ) → nat_lt k n ≡ true → (k == n) ≡ false
lt_apart k n h = grind (arith, nat_tests)

or_and : (a b c : Bool) → (a && c || b && c) ≡ ((a || b) && c)
or_and true true true = refl
or_and true true false = refl
or_and true false true = refl
or_and true false false = refl
or_and false b c = refl

or_apart : (a b c : Bool) → (a ≡ true → b ≡ false) → (a && c) ≡ true → (b && c) ≡ false
or_apart true b c h e = ap (λ (x : Bool). x && c) (h refl)
or_apart false b c h e = absurd (true_false (sym e))

-- ---- givers

-- the givers so far, at this shard
abbrev pub givers_upto : ℕ → ℕ → ℕ → ℕ → Bool
givers_upto n shard giver k = nat_le giver n && k == shard

module _ (plan : Plan) (from shard : ℕ) (p : List Place) (v : List (List Place)) (other : IsOther plan from) where
  pub givers_none : JoinedWhere (givers_upto 0 shard) plan from p p v v
  givers_none = joined_none (givers_upto 0 shard) plan from p v other
      (λ giver k o less. ap (λ (b : Bool). b && k == shard) (le_none giver o.some))

  pub givers_more : (n : ℕ) (m q : List Place) (u w : List (List Place)) → length p ≡ plan.shards
      → JoinedWhere (givers_upto n shard) plan from p m v u
      → JoinedWhere (λ giver k. giver == n + 1 && k == shard) plan from m q u w
      → JoinedWhere (givers_upto (n + 1) shard) plan from p q v w
  givers_more n m q u w long i j =
      joined_same (λ giver k. givers_upto n shard giver k || giver == n + 1 && k == shard) (givers_upto (n + 1) shard) plan from p q v w
      other
      (λ giver k o less.
      or_and (nat_le giver n) (giver == n + 1) (k == shard) ∙ ap (λ (b : Bool). b && k == shard) (le_next giver n))
      (joined_both (givers_upto n shard) (λ giver k. giver == n + 1 && k == shard) plan from p m q v u w other long
      (λ giver k o less. or_apart (nat_le giver n) (giver == n + 1) (k == shard) (le_apart giver n)) i j)

  pub givers_all : (n : ℕ) (q : List Place) (w : List (List Place)) → plan.members ≤ n
      → JoinedWhere (givers_upto n shard) plan from p q v w → JoinedWhere (λ giver k. k == shard) plan from p q v w
  givers_all n q w all j =
      joined_same (givers_upto n shard) (λ giver k. k == shard) plan from p q v w other
      (λ giver k o less. ap (λ (b : Bool). b && k == shard) (le_all giver n (let stated = o.stated in omega arith))) j

-- ---- shards

-- all givers, at the shards so far
abbrev pub shards_upto : ℕ → ℕ → ℕ → Bool
shards_upto n giver k = nat_lt k n

module _ (plan : Plan) (from : ℕ) (p : List Place) (v : List (List Place)) (other : IsOther plan from) where
  pub shards_none : JoinedWhere (shards_upto 0) plan from p p v v
  shards_none = joined_none (shards_upto 0) plan from p v other (λ giver k o less. lt_none k)

  pub shards_more : (n : ℕ) (m q : List Place) (u w : List (List Place)) → length p ≡ plan.shards
      → JoinedWhere (shards_upto n) plan from p m v u → JoinedWhere (λ giver k. k == n) plan from m q u w
      → JoinedWhere (shards_upto (n + 1)) plan from p q v w
  shards_more n m q u w long i j =
      joined_same (λ giver k. shards_upto n giver k || k == n) (shards_upto (n + 1)) plan from p q v w other
      (λ giver k o less. lt_next k n)
      (joined_both (shards_upto n) (λ giver k. k == n) plan from p m q v u w other long (λ giver k o less. lt_apart k n) i j)

  pub shards_all : (n : ℕ) (q : List Place) (w : List (List Place)) → plan.shards ≤ n
      → JoinedWhere (shards_upto n) plan from p q v w → Joined plan from p q v w
  shards_all n q w all j =
      joined_same (shards_upto n) (λ giver k. true) plan from p q v w other (λ giver k o less. lt_all k n (omega arith)) j
