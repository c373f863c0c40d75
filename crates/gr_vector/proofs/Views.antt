-- The ids of a vector: in order, and there exactly where the member has their numbers.
use Rattle.std.proofs.Common.{◌≡◌, ℕ, zero, suc, ◌+◌, ◌-◌, ◌<◌, ◌≤◌, List, [], ◌∷◌, ◌++◌, Bool, true, false, ◌&&◌, ◌||◌, ◌==◌, ltb}
use Rattle.std.proofs.Common.{leb, refl, sym, ◌∙◌, subst, ap, arith, if◌then◌else◌}
use Rattle.std.proofs.Math.Bool.{or_assoc}
use Rattle.std.proofs.lemmas.Bool.Decides.{nat_tests}
use Rattle.gr_vector.specs.declared.block.Block.{Block}
use Rattle.gr_vector.specs.Blocks.{Numbers, is_noted, holds}
use Rattle.gr_vector.specs.Ids.{Id, is_same_id, has_id}
use Rattle.gr_vector.specs.Order.{with_id, united, AllAfter, IsSorted}
use Rattle.gr_vector.specs.Views.{held_upto, ids_of, ids_from, is_held}
use Rattle.gr_vector.proofs.Order.{has_with, has_united, with_sorted, united_sorted, one_vector}

has_append : (id : Id) (xs ys : List Id) → has_id id (xs ++ ys) ≡ (has_id id xs || has_id id ys)
has_append id [] ys = refl
has_append id (first ∷ xs) ys = ap (λ b. is_same_id first id || b) (has_append id xs ys)
    ∙ sym (or_assoc (is_same_id first id) (has_id id xs) (has_id id ys))

has_numbers : (id : Id) (member n : ℕ) (blocks : List Block)
    → has_id id (ids_of member (held_upto n blocks)) ≡ (member == id.member && (ltb 0 id.rv && (leb id.rv n && is_noted id.rv blocks)))
has_numbers id member zero blocks = none (member == id.member) id.rv (is_noted id.rv blocks)
  where
    none : (a : Bool) (v : ℕ) (m : Bool) → false ≡ (a && (ltb 0 v && (leb v 0 && m)))
    none a v m = grind (arith, nat_tests)
has_numbers id member (suc n) blocks = at_test (is_noted (suc n) blocks) refl (has_numbers id member n blocks)
  where
    gone : (a : Bool) (v : ℕ) (m : Bool) → (v ≡ suc n → m ≡ false)
        → (a && (ltb 0 v && (leb v n && m))) ≡ (a && (ltb 0 v && (leb v (suc n) && m)))
    gone a v m h = grind (arith, nat_tests)

    there : (a : Bool) (v : ℕ) (m r : Bool) → (v ≡ suc n → m ≡ true) → r ≡ (a && (ltb 0 v && (leb v n && m)))
        → ((a && suc n == v) || r) ≡ (a && (ltb 0 v && (leb v (suc n) && m)))
    there a v m r h e = grind (arith, nat_tests)

    at_test : (b : Bool) → is_noted (suc n) blocks ≡ b
        → has_id id (ids_of member (held_upto n blocks))
        ≡ (member == id.member && (ltb 0 id.rv && (leb id.rv n && is_noted id.rv blocks)))
        → has_id id (ids_of member (if b then suc n ∷ held_upto n blocks else held_upto n blocks))
        ≡ (member == id.member && (ltb 0 id.rv && (leb id.rv (suc n) && is_noted id.rv blocks)))
    at_test false e next = next ∙ gone (member == id.member) id.rv (is_noted id.rv blocks)
        (λ is. subst (λ z. is_noted z blocks ≡ false) (sym is) e)
    at_test true e next = there (member == id.member) id.rv (is_noted id.rv blocks) (has_id id (ids_of member (held_upto n blocks)))
        (λ is. subst (λ z. is_noted z blocks ≡ true) (sym is) e) next

has_own : (id : Id) (member : ℕ) (numbers : Numbers) → has_id id (ids_of member (held_upto numbers.top numbers.blocks))
    ≡ (member == id.member && holds id.rv numbers)
has_own id member numbers = has_numbers id member numbers.top numbers.blocks

none_of : (id : Id) (from : ℕ) (members : List Numbers) → id.member < from → has_id id (ids_from from members) ≡ false
none_of id from [] lt = refl
none_of id from (numbers ∷ rest) lt =
    has_append id (ids_of from (held_upto numbers.top numbers.blocks)) (ids_from (suc from) rest)
    ∙ neither from id.member (holds id.rv numbers) (has_id id (ids_of from (held_upto numbers.top numbers.blocks)))
    (has_id id (ids_from (suc from) rest))
    lt (has_own id from numbers) (none_of id (suc from) rest (omega (arith, lt)))
  where
    neither : (a b : ℕ) (h x y : Bool) → b < a → x ≡ (a == b && h) → y ≡ false → (x || y) ≡ false
    neither a b h x y lt e f = grind (arith, nat_tests)

has_place : (k v from : ℕ) (members : List Numbers) → has_id (record { member = from + k; rv = v }) (ids_from from members)
    ≡ is_held k v members
has_place k v from [] = none v
  where
    none : (v : ℕ) → false ≡ (ltb 0 v && (leb v 0 && false))
    none v = grind (arith, nat_tests)
has_place zero v from (numbers ∷ rest) =
    has_append (record { member = from + 0; rv = v }) (ids_of from (held_upto numbers.top numbers.blocks))
    (ids_from (suc from) rest)
    ∙ own from (holds v numbers) (has_id (record { member = from + 0; rv = v })
    (ids_of from (held_upto numbers.top numbers.blocks)))
    (has_id (record { member = from + 0; rv = v }) (ids_from (suc from) rest))
    (has_own (record { member = from + 0; rv = v }) from numbers)
    (none_of (record { member = from + 0; rv = v }) (suc from) rest (omega arith))
  where
    own : (a : ℕ) (h x y : Bool) → x ≡ (a == (a + 0) && h) → y ≡ false → (x || y) ≡ h
    own a h x y e f = grind (arith, nat_tests)
has_place (suc k) v from (numbers ∷ rest) =
    has_append (record { member = from + suc k; rv = v }) (ids_of from (held_upto numbers.top numbers.blocks))
    (ids_from (suc from) rest)
    ∙ other from (holds v numbers) (has_id (record { member = from + suc k; rv = v })
    (ids_of from (held_upto numbers.top numbers.blocks)))
    (has_id (record { member = from + suc k; rv = v }) (ids_from (suc from) rest)) (is_held k v rest)
    (has_own (record { member = from + suc k; rv = v }) from numbers)
    (subst (λ m. has_id (record { member = m; rv = v }) (ids_from (suc from) rest) ≡ is_held k v rest) (moved from k)
    (has_place k v (suc from) rest))
  where
    moved : (a k : ℕ) → suc a + k ≡ a + suc k
    moved a k = omega arith

    other : (a : ℕ) (h x y z : Bool) → x ≡ (a == (a + suc k) && h) → y ≡ z → (x || y) ≡ z
    other a h x y z e f = grind (arith, nat_tests)

-- an id is there exactly where its member has its number
pub has_ids : (id : Id) (members : List Numbers) → has_id id (ids_from 1 members)
    ≡ (ltb 0 id.member && is_held (id.member - 1) id.rv members)
has_ids id members = at_member (ltb 0 id.member) refl
  where
    nobody : (a : ℕ) → ltb 0 a ≡ false → a < 1
    nobody a e = grind (arith, nat_tests)

    somebody : (a : ℕ) → ltb 0 a ≡ true → 1 + (a - 1) ≡ a
    somebody a e = grind (arith, nat_tests)

    at_member : (b : Bool) → ltb 0 id.member ≡ b → has_id id (ids_from 1 members) ≡ (b && is_held (id.member - 1) id.rv members)
    at_member false e = none_of id 1 members (nobody id.member e)
    at_member true e = subst (λ m. has_id (record { member = m; rv = id.rv }) (ids_from 1 members) ≡ is_held (id.member - 1) id.rv members)
        (somebody id.member e) (has_place (id.member - 1) id.rv 1 members)

later_after : (member v from : ℕ) (members : List Numbers) → member < from
    → AllAfter (record { member = member; rv = v }) (ids_from from members)
later_after member v from [] lt = tt
later_after member v from (numbers ∷ rest) lt =
    along (held_upto numbers.top numbers.blocks) (later_after member v (suc from) rest (omega (arith, lt)))
  where
    before : (a b c d : ℕ) → a < b → (ltb a b || (a == b && ltb c d)) ≡ true
    before a b c d lt = grind (arith, nat_tests)

    along : (vs : List ℕ) → AllAfter (record { member = member; rv = v }) (ids_from (suc from) rest)
        → AllAfter (record { member = member; rv = v }) (ids_of from vs ++ ids_from (suc from) rest)
    along [] h = h
    along (w ∷ vs) h = (before member from w v lt, along vs h)

lower_after : (member v n : ℕ) (blocks : List Block) (rest : List Id) → n < v → AllAfter (record { member = member; rv = v }) rest
    → AllAfter (record { member = member; rv = v }) (ids_of member (held_upto n blocks) ++ rest)
lower_after member v zero blocks rest lt h = h
lower_after member v (suc n) blocks rest lt h = at_test (is_noted (suc n) blocks) (lower_after member v n blocks rest (omega (arith, lt)) h)
  where
    before : (a c d : ℕ) → c < d → (ltb a a || (a == a && ltb c d)) ≡ true
    before a c d lt = grind (arith, nat_tests)

    at_test : (b : Bool) → AllAfter (record { member = member; rv = v }) (ids_of member (held_upto n blocks) ++ rest)
        → AllAfter (record { member = member; rv = v }) (ids_of member (if b then suc n ∷ held_upto n blocks else held_upto n blocks) ++ rest)
    at_test false next = next
    at_test true next = (before member (suc n) v lt, next)

own_sorted : (member n : ℕ) (blocks : List Block) (rest : List Id) → IsSorted rest
    → ((v : ℕ) → AllAfter (record { member = member; rv = v }) rest)
    → IsSorted (ids_of member (held_upto n blocks) ++ rest)
own_sorted member zero blocks rest h after = h
own_sorted member (suc n) blocks rest h after = at_test (is_noted (suc n) blocks) (own_sorted member n blocks rest h after)
  where
    at_test : (b : Bool) → IsSorted (ids_of member (held_upto n blocks) ++ rest)
        → IsSorted (ids_of member (if b then suc n ∷ held_upto n blocks else held_upto n blocks) ++ rest)
    at_test false next = next
    at_test true next = (lower_after member (suc n) n blocks rest (omega arith) (after (suc n)), next)

pub ids_sorted : (from : ℕ) (members : List Numbers) → IsSorted (ids_from from members)
ids_sorted from [] = tt
ids_sorted from (numbers ∷ rest) = own_sorted from numbers.top numbers.blocks (ids_from (suc from) rest)
    (ids_sorted (suc from) rest)
    (λ v. later_after from v (suc from) rest (omega arith))

both_held : (a x y : Bool) → x ≡ y → (a && x) ≡ (a && y)
both_held a x y e = ap (λ b. a && b) e

-- members that have the same numbers have the same ids
pub same_ids : (new old : List Numbers) → ((k v : ℕ) → is_held k v new ≡ is_held k v old) → ids_from 1 new ≡ ids_from 1 old
same_ids new old same = one_vector (ids_from 1 new) (ids_from 1 old) (ids_sorted 1 new) (ids_sorted 1 old)
    (λ id. has_ids id new ∙ both_held (ltb 0 id.member) (is_held (id.member - 1) id.rv new) (is_held (id.member - 1) id.rv old)
    (same (id.member - 1) id.rv)
    ∙ sym (has_ids id old))

pub no_ids : (members : List Numbers) → ((k v : ℕ) → is_held k v members ≡ false) → ids_from 1 members ≡ []
no_ids members none = one_vector (ids_from 1 members) [] (ids_sorted 1 members) tt
    (λ id. has_ids id members ∙ ap (λ b. ltb 0 id.member && b) (none (id.member - 1) id.rv) ∙ never (ltb 0 id.member))
  where
    never : (a : Bool) → (a && false) ≡ false
    never a = grind arith

-- one more number of one member is one more id
pub noted_ids : (member rv : ℕ) (new old : List Numbers) → 1 ≤ member
    → ((k v : ℕ) → is_held k v new ≡ ((k == (member - 1) && v == rv) || is_held k v old))
    → ids_from 1 new ≡ with_id (record { member = member; rv = rv }) (ids_from 1 old)
noted_ids member rv new old some more =
    one_vector (ids_from 1 new) (with_id (record { member = member; rv = rv }) (ids_from 1 old)) (ids_sorted 1 new)
    (with_sorted (record { member = member; rv = rv }) (ids_from 1 old) (ids_sorted 1 old))
    (λ id. has_ids id new
    ∙ joined id.member id.rv (is_held (id.member - 1) id.rv new) (is_held (id.member - 1) id.rv old) (has_id id (ids_from 1 old))
    (more (id.member - 1) id.rv) (has_ids id old)
    ∙ sym (has_with id (record { member = member; rv = rv }) (ids_from 1 old)))
  where
    joined : (m v : ℕ) (x y z : Bool) → x ≡ (((m - 1) == (member - 1) && v == rv) || y) → z ≡ (ltb 0 m && y)
        → (ltb 0 m && x) ≡ ((member == m && rv == v) || z)
    joined m v x y z e f = grind (arith, nat_tests)

-- the numbers of both, member by member, are the ids of both
pub united_ids : (new ours theirs : List Numbers) → ((k v : ℕ) → is_held k v new ≡ (is_held k v ours || is_held k v theirs))
    → ids_from 1 new ≡ united (ids_from 1 ours) (ids_from 1 theirs)
united_ids new ours theirs both =
    one_vector (ids_from 1 new) (united (ids_from 1 ours) (ids_from 1 theirs)) (ids_sorted 1 new)
    (united_sorted (ids_from 1 ours) (ids_from 1 theirs) (ids_sorted 1 ours))
    (λ id. has_ids id new
    ∙ joined (ltb 0 id.member) (is_held (id.member - 1) id.rv new) (is_held (id.member - 1) id.rv ours)
    (is_held (id.member - 1) id.rv theirs)
    (has_id id (ids_from 1 ours)) (has_id id (ids_from 1 theirs)) (both (id.member - 1) id.rv) (has_ids id ours) (has_ids id theirs)
    ∙ sym (has_united id (ids_from 1 ours) (ids_from 1 theirs)))
  where
    joined : (a x y z p q : Bool) → x ≡ (y || z) → p ≡ (a && y) → q ≡ (a && z) → (a && x) ≡ (p || q)
    joined a x y z p q e f g = grind arith
