-- After the hand-over all members that stay know the same changes of the one that departs.
use Rattle.std.proofs.Common.{suc, ◌≡◌, ◌⊎◌, ℕ, ◌≤◌, ◌<◌, List, ◌∷◌, Bool, true, false, ◌&&◌, ◌||◌, ◌==◌, refl, sym, ◌∙◌, subst}
use Rattle.std.proofs.Common.{inl, inr, ⊎_elim, arith, reverse, if◌then◌else◌}
use Rattle.gr_stamp.specs.declared.change.Change.{Change}
use Rattle.gr_vector.specs.Ids.{Id, has_id, is_same_id}
use Rattle.gr_vector.proofs.Order.{same_id_same}
use Rattle.gr_history.specs.declared.deed.Deed.{Deed}
use Rattle.gr_history.specs.Ids.{id_of, ids}
use Rattle.gr_law.specs.Grids.{Among}
use Rattle.gr_law.proofs.Lists.{among_reverse, cases_le}
use Rattle.gr_law.proofs.Steps.{true_isnt_false}
use Rattle.gr_script.specs.Rules.{Heading}
use Rattle.gr_script.specs.Steps.{is_gone}
use Rattle.gr_world.specs.Events.{Event, put_if, history}
use Rattle.gr_world.specs.Doings.{Takes, deed_of}
use Rattle.gr_world.specs.Courses.{does, identity_at, unless, copies, copies_all, hands_over}
use Rattle.gr_world.specs.Departures.{taken_of}
use Rattle.gr_world.proofs.Causes.{each_keeps}
use Rattle.gr_world.proofs.Events.{equal_numbers}
use Rattle.gr_world.specs.Shut.{IsStaying, Knows, HasTaken, IsKept, IsFromTaken, IsOne}
use Rattle.gr_world.proofs.Growing.{or_right, into_reverse, still_known}
use Rattle.gr_world.proofs.Walks.{Keeps, unless_keeps, each_keep, takes_keep}
use Rattle.gr_world.proofs.Growing.{still_taken}
use Rattle.gr_world.proofs.Growing.{is_taken, takes_knows}

module _ (heading : Heading) (gone : List ℕ) (of shard : ℕ) (start : List Event) where
  abbrev Kept : Id → Type 0
  Kept id = IsKept heading gone of shard start id

  -- What members that stay know and took in of it comes from these.
  pub record AreKept (now : List Event) : Type 0 where
    pub known : (j : ℕ) → IsStaying heading gone j → (id : Id) → id.member ≡ of → Knows j shard id now → Kept id
    pub taken : (j : ℕ) → IsStaying heading gone j → (change : Change) → HasTaken of j shard change now → Kept (id_of change)
    pub more : (j : ℕ) (change : Change) → HasTaken of j shard change start → HasTaken of j shard change now

  -- so it is behind one more
  kept_one : (m : ℕ) (change : Change) → Kept (id_of change) → Keeps AreKept (does heading m shard (Takes change))
  kept_one m change is now h = record {
    known = λ j staying id named. at_known j staying id named (shard == shard && j == m);
    taken = λ j staying one. at_taken j staying one (shard == shard && j == m);
    more = λ j one a. still_taken heading of j shard m shard one (Takes change) now (h.more j one a);
  }
    where
      deed : Deed
      deed = deed_of (identity_at heading m shard) heading.floor (history m shard now) (Takes change)

      or_case : (b c : Bool) → (b || c) ≡ true → (b ≡ true) ⊎ (c ≡ true)
      or_case true c h = inl refl
      or_case false c h = inr h

      at_known : (j : ℕ) → IsStaying heading gone j → (id : Id) → id.member ≡ of → (b : Bool)
          → has_id id (ids (put_if b deed (history j shard now))) ≡ true → Kept id
      at_known j staying id named true k = ⊎_elim
          (λ same. subst Kept (same_id_same (id_of change) id same) is)
          (λ before. h.known j staying id named before)
          (or_case (is_same_id (id_of change) id) (has_id id (ids (history j shard now))) k)
      at_known j staying id named false k = h.known j staying id named k

      at_taken : (j : ℕ) → IsStaying heading gone j → (one : Change) → (b : Bool)
          → Among one (taken_of of (put_if b deed (history j shard now))) → Kept (id_of one)
      at_taken j staying one false a = h.taken j staying one a
      at_taken j staying one true a = at_of (change.stamp.member == of) a
        where
          at_of : (c : Bool) → Among one (if c then change ∷ taken_of of (history j shard now) else taken_of of (history j shard now))
              → Kept (id_of one)
          at_of true (inl e) = subst (λ x. Kept (id_of x)) (sym e) is
          at_of true (inr a) = h.taken j staying one a
          at_of false a = h.taken j staying one a

  copies_kept : (taker giver : ℕ) → IsStaying heading gone giver → Keeps AreKept (copies heading of shard taker giver)
  copies_kept taker giver staying now h =
      takes_keep heading taker shard AreKept (reverse (taken_of of (history giver shard now)))
      (λ change a. kept_one taker change (h.taken giver staying change (among_reverse change _ a))) now h

  -- what one of them has from all up to the n-th
  pub record HasAll (taker n : ℕ) (now : List Event) : Type 0 where
    pub kept : AreKept now
    pub has : (giver : ℕ) → giver ≤ n → IsStaying heading gone giver → (change : Change) → HasTaken of giver shard change start
        → Knows taker shard (id_of change) now

  copies_has : (taker giver n : ℕ) → giver ≡ suc n → IsStaying heading gone giver → (now : List Event) → HasAll taker n now
      → HasAll taker (suc n) (copies heading of shard taker giver now)
  copies_has taker giver n is staying now h = record {
    kept = copies_kept taker giver staying now h.kept;
    has = λ one le stays change a. at_one one change a (cases_le one n) le stays;
  }
    where
      list : List Change
      list = reverse (taken_of of (history giver shard now))

      at_one : (one : ℕ) (change : Change) → HasTaken of one shard change start → (one ≤ n) ⊎ (n < one) → one ≤ suc n
          → IsStaying heading gone one → Knows taker shard (id_of change) (copies heading of shard taker giver now)
      at_one one change a (inl le) most stays =
          takes_keep heading taker shard (Knows taker shard (id_of change)) list
          (λ c b. still_known heading taker shard taker shard (id_of change) (Takes c)) now (h.has one le stays change a)
      at_one one change a (inr lt) most stays =
          let same : one ≡ giver = omega (arith, is, lt, most) in
          takes_knows heading taker shard list change
          (into_reverse change (taken_of of (history giver shard now))
          (h.kept.more giver change (subst (λ g. HasTaken of g shard change start) same a))) now

  -- nothing is to be had of one that has departed, or of the taker itself
  skips_has : (taker n : ℕ) (now : List Event) → ((suc n == taker || is_gone gone (suc n)) ≡ true) → HasAll taker n now
      → HasAll taker (suc n) now
  skips_has taker n now skip h = record {
    kept = h.kept;
    has = λ one le stays change a. at_one one change a (cases_le one n) le stays;
  }
    where
      own : (one : ℕ) → one ≡ suc n → is_gone gone one ≡ false → one ≡ taker
      own one is stays = sym (at_test (suc n == taker) (is_gone gone (suc n)) refl refl skip ∙ sym is)
        where
          at_test : (b c : Bool) → (suc n == taker) ≡ b → is_gone gone (suc n) ≡ c → (b || c) ≡ true → taker ≡ suc n
          at_test true c e f h = sym (equal_numbers (suc n) taker e)
          at_test false true e f h = absurd (true_isnt_false (sym f ∙ subst (λ k. is_gone gone k ≡ false) is stays))
          at_test false false e f h = absurd (true_isnt_false (sym h))

      at_one : (one : ℕ) (change : Change) → HasTaken of one shard change start → (one ≤ n) ⊎ (n < one) → one ≤ suc n
          → IsStaying heading gone one → Knows taker shard (id_of change) now
      at_one one change a (inl le) most stays = h.has one le stays change a
      at_one one change a (inr lt) most stays =
          let is : one ≡ suc n = omega (arith, lt, most) in
          let mine : one ≡ taker = own one is stays.stays in
          (is_taken of (history taker shard now) change
          (h.kept.more taker change (subst (λ g. HasTaken of g shard change start) mine a))).known

  copies_all_has : (taker : ℕ) (now : List Event) → AreKept now → HasAll taker heading.members (copies_all heading gone of shard taker now)
  copies_all_has taker now h =
      each_keeps (HasAll taker) heading.members
      (λ n. unless (suc n == taker || is_gone gone (suc n)) (copies heading of shard taker (suc n))) now
      (record { kept = h; has = λ giver le stays change a. absurd (none giver le stays.stated.0) })
      (λ n mid less has. at_test n less mid has (suc n == taker || is_gone gone (suc n)) refl)
    where
      none : (giver : ℕ) → giver ≤ 0 → 1 ≤ giver → ⊥
      none giver le from = omega (arith, le, from)

      at_test : (n : ℕ) → n < heading.members → (mid : List Event) → HasAll taker n mid → (b : Bool)
          → (suc n == taker || is_gone gone (suc n)) ≡ b → HasAll taker (suc n) (unless b (copies heading of shard taker (suc n)) mid)
      at_test n less mid has true e = skips_has taker n mid e has
      at_test n less mid has false e =
          copies_has taker (suc n) n refl (record {
            stated = (omega arith, omega (arith, less));
            stays = or_right (suc n == taker) (is_gone gone (suc n)) e;
          }) mid has

  -- what is known stays known while others take in
  copies_all_keep : (j : ℕ) (id : Id) (taker : ℕ) → Keeps (Knows j shard id) (copies_all heading gone of shard taker)
  copies_all_keep j id taker =
      each_keep (Knows j shard id) heading.members
      (λ n. unless (suc n == taker || is_gone gone (suc n)) (copies heading of shard taker (suc n)))
      (λ n less. unless_keeps (Knows j shard id) (suc n == taker || is_gone gone (suc n)) (copies heading of shard taker (suc n))
      (λ e now h. takes_keep heading taker shard (Knows j shard id) (reverse (taken_of of (history (suc n) shard now)))
      (λ c b. still_known heading j shard taker shard id (Takes c)) now h))

  -- all up to the n-th have all
  pub record AllHave (n : ℕ) (now : List Event) : Type 0 where
    pub kept : AreKept now
    pub have : (taker : ℕ) → taker ≤ n → IsStaying heading gone taker → (id : Id) → Kept id → Knows taker shard id now

  handed : AreKept start → AllHave heading.members (hands_over heading gone of shard start)
  handed h =
      each_keeps AllHave heading.members
      (λ n. unless (is_gone gone (suc n)) (copies_all heading gone of shard (suc n))) start
      (record { kept = h; have = λ taker le stays id is. absurd (none taker le stays.stated.0) })
      (λ n mid less all. at_test n mid all (is_gone gone (suc n)) refl)
    where
      none : (giver : ℕ) → giver ≤ 0 → 1 ≤ giver → ⊥
      none giver le from = omega (arith, le, from)

      at_test : (n : ℕ) (mid : List Event) → AllHave n mid → (b : Bool) → is_gone gone (suc n) ≡ b
          → AllHave (suc n) (unless b (copies_all heading gone of shard (suc n)) mid)
      at_test n mid all true e = record {
        kept = all.kept;
        have = λ taker le stays id is. at_le taker id is stays (cases_le taker n) le;
      }
        where
          at_le : (taker : ℕ) (id : Id) → Kept id → IsStaying heading gone taker → (taker ≤ n) ⊎ (n < taker) → taker ≤ suc n
              → Knows taker shard id mid
          at_le taker id is stays (inl le) most = all.have taker le stays id is
          at_le taker id is stays (inr lt) most =
              let same : taker ≡ suc n = omega (arith, lt, most) in
              absurd (true_isnt_false (sym e ∙ subst (λ k. is_gone gone k ≡ false) same stays.stays))
      at_test n mid all false e = record {
        kept = last.kept;
        have = λ taker le stays id is. at_le taker id is stays (cases_le taker n) le;
      }
        where
          last : HasAll (suc n) heading.members (copies_all heading gone of shard (suc n) mid)
          last = copies_all_has (suc n) mid all.kept

          at_le : (taker : ℕ) (id : Id) → Kept id → IsStaying heading gone taker → (taker ≤ n) ⊎ (n < taker) → taker ≤ suc n
              → Knows taker shard id (copies_all heading gone of shard (suc n) mid)
          at_le taker id is stays (inl le) most = copies_all_keep taker id (suc n) mid (all.have taker le stays id is)
          at_le taker id is stays (inr lt) most =
              let same : suc n ≡ taker = omega (arith, lt, most) in
              subst (λ k. Knows k shard id (copies_all heading gone of shard (suc n) mid)) same
              (subst (λ one. Knows (suc n) shard one (copies_all heading gone of shard (suc n) mid)) is.named
              (last.has is.giver is.staying.stated.1 is.staying is.change is.taken))

both_true : (a b : Bool) → (a ≡ true → b ≡ true) → (b ≡ true → a ≡ true) → a ≡ b
both_true true b f g = sym (f refl)
both_true false true f g = g refl
both_true false false f g = refl

pub handed_one : (heading : Heading) (gone : List ℕ) (of shard : ℕ) (now : List Event) → IsFromTaken heading gone of shard now
    → IsOne heading gone of shard (hands_over heading gone of shard now)
handed_one heading gone of shard now from j k at_j at_k id named =
    both_true _ _
    (λ known. all.have k at_k.stated.1 at_k id (all.kept.known j at_j id named known))
    (λ known. all.have j at_j.stated.1 at_j id (all.kept.known k at_k id named known))
  where
    all : AllHave heading gone of shard now heading.members (hands_over heading gone of shard now)
    all = handed heading gone of shard now (record {
      known = from;
      taken = λ j staying change a. record { giver = j; staying = staying; change = change; taken = a; named = refl };
      more = λ j change a. a;
    })
