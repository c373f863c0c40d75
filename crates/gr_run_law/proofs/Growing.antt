-- How what threads leave grows: what a session's step, a gift, and a meeting of passes add.
use Rattle.std.proofs.Common.{◌≡◌, ℕ, zero, suc, ◌+◌, ◌<◌, ◌≤◌, ◌==◌, Bool, true, false, List, [], ◌∷◌, ◌++◌, length, Option, Some, None}
use Rattle.std.proofs.Common.{refl, sym, ap, ◌∙◌, subst, arith, inl, inr, max, if◌then◌else◌, cond, length-append, append-nil, eqb-true}
use Rattle.std.specs.Prelude.{slice_get}
use Rattle.std.specs.List.{filter_map, cons_option}
use Rattle.std.proofs.lemmas.Grind.{flat_map-append}
use Rattle.gr_value.specs.Shard.{shard_of}
use Rattle.gr_turn.specs.Views.{times}
use Rattle.gr_history.specs.Asks.{key_of}
use Rattle.gr_history.specs.declared.deed.Deed.{Deed}
use Rattle.gr_history.specs.declared.deed.Deed.TheVariants.{Call, Asked, Taken, Gave, Imaged, Reported, Heard, Swept}
use Rattle.gr_history.specs.declared.image.What.{What}
use Rattle.gr_history.specs.Gifts.{own_changes}
use Rattle.gr_law.specs.Grids.{Among, Older}
use Rattle.gr_world.specs.Events.{Peek}
use Rattle.gr_world.specs.Served.{Served, Called, Queried, Looked, deeds_of, all_deeds_of}
use Rattle.gr_run_law.specs.Shares.{Stands, Owner, Client, Thread, Giver, AreShared, AreSharedSoFar, same_owner, with_owner}
use Rattle.gr_run_law.specs.Duties.{gift_in, given_to, own_where}
use Rattle.gr_run_law.specs.Threads.{LooksFit, behind_first, rest_if, seen_if}
use Rattle.gr_run_law.proofs.Lists.{get_front, get_last, same_number, true_false, no_item}
use Rattle.gr_value.specs.Lists.{StartsWith}

-- ---- what stands

module _ {E : Type 0} where
  -- it goes on standing where the list grows
  pub stands_on : (list more : List E) (low : ℕ) (ps : List ℕ) (ds : List E) → StartsWith more list → Stands list low ps ds
      → Stands more low ps ds
  stands_on list more low [] [] s h = let k = ap length s.1 in let l = length-append list s.0 in omega arith
  stands_on list more low (p ∷ ps) (d ∷ ds) s h =
      (h.0, subst (λ (l : List E). slice_get l p ≡ Some d) (sym s.1) (get_front list s.0 p d h.1), stands_on list more (suc p) ps ds s h.2)
  stands_on list more low [] (d ∷ ds) s h = absurd h
  stands_on list more low (p ∷ ps) [] s h = absurd h

  -- one more stands last
  pub stands_more : (list : List E) (low : ℕ) (ps : List ℕ) (ds : List E) (d : E) → Stands list low ps ds
      → Stands (list ++ d ∷ []) low (ps ++ length list ∷ []) (ds ++ d ∷ [])
  stands_more list low [] [] d h = (h, get_last list d, let k = length-append list (d ∷ []) in omega arith)
  stands_more list low (p ∷ ps) (x ∷ ds) d h = (h.0, get_front list (d ∷ []) p x h.1, stands_more list (suc p) ps ds d h.2)
  stands_more list low [] (x ∷ ds) d h = absurd h
  stands_more list low (p ∷ ps) [] d h = absurd h

-- ---- passes that are met

times_append : (p : ℕ) (xs ys : List ℕ) → times p (xs ++ ys) ≡ times p xs + times p ys
times_append p [] ys = omega arith
times_append p (x ∷ xs) ys = let k : times p (xs ++ ys) ≡ times p xs + times p ys = times_append p xs ys in omega arith

owner_itself : (owner : Owner) → same_owner owner owner ≡ true
owner_itself (Client client) = same_number client
owner_itself Thread = refl
owner_itself (Giver joiner) = same_number joiner

-- At the beginning nobody has made a place.
pub shared_none : (list : List Deed) → AreSharedSoFar list [] (λ owner. []) (λ owner. [])
shared_none list = record { stands = λ owner. (let k : 0 ≤ length list = omega arith in k); each = λ p t. absurd (omega arith) }

-- One pass more is met, of an owner that had none: the list begins with all that was known before.
pub shared_met : (list more : List Deed) (made ps : List ℕ) (owned : Owner → List Deed) (places : Owner → List ℕ)
    (owner : Owner) (ds : List Deed)
    → AreSharedSoFar list made owned places → StartsWith more list → Stands more 0 ps ds → places owner ≡ []
    → AreSharedSoFar more (made ++ ps) (with_owner owner ds owned) (with_owner owner ps places)
shared_met list more made ps owned places owner ds shared starts stands none = record {
  stands = λ other. at_other other (same_owner owner other);
  each = λ p t. at_place p t (times p ps) refl;
}
  where
    at_other : (other : Owner) (b : Bool) → Stands more 0 (cond b ps (places other)) (cond b ds (owned other))
    at_other other true = stands
    at_other other false = stands_on list more 0 (places other) (owned other) starts (shared.stands other)

    of_owner : (p : ℕ) → 0 < times p ps → 0 < times p (with_owner owner ps places owner)
    of_owner p t = subst (λ b. 0 < times p (cond b ps (places owner))) (sym (owner_itself owner)) t

    of_other : (p : ℕ) (other : Owner) (b : Bool) → same_owner owner other ≡ b → 0 < times p (places other)
        → 0 < times p (cond b ps (places other))
    of_other p other true e t = absurd (let z : times p (places other) ≡ 0 = ap (times p) (one_place other e) in omega arith)
      where
        one_place : (other : Owner) → same_owner owner other ≡ true → places other ≡ []
        one_place other e = ap places (sym (the_same owner other e)) ∙ none
          where
            the_same : (a b : Owner) → same_owner a b ≡ true → a ≡ b
            the_same (Client x) (Client y) e = ap (λ n. Client n) (eqb-true x y e)
            the_same Thread Thread e = refl
            the_same (Giver x) (Giver y) e = ap (λ n. Giver n) (eqb-true x y e)
            the_same (Client x) Thread e = absurd (true_false (sym e))
            the_same (Client x) (Giver y) e = absurd (true_false (sym e))
            the_same Thread (Client y) e = absurd (true_false (sym e))
            the_same Thread (Giver y) e = absurd (true_false (sym e))
            the_same (Giver x) (Client y) e = absurd (true_false (sym e))
            the_same (Giver x) Thread e = absurd (true_false (sym e))
    of_other p other false e t = t

    at_place : (p : ℕ) → 0 < times p (made ++ ps) → (n : ℕ) → times p ps ≡ n → (o : Owner) × (0 < times p (with_owner owner ps places o))
    at_place p t (suc n) e = (owner, of_owner p (omega arith))
    at_place p t zero e =
        let l = times_append p made ps in
        let r = shared.each p (omega arith) in
        (r.0, of_other p r.0 (same_owner owner r.0) refl r.1)

-- At the end all places are made.
pub shared_whole : (list : List Deed) (made : List ℕ) (owned : Owner → List Deed) (places : Owner → List ℕ)
    → AreSharedSoFar list made owned places → ((p : ℕ) → p < length list → 0 < times p made) → AreShared list owned places
shared_whole list made owned places shared all = record { stands = shared.stands; each = λ p less. shared.each p (all p less) }

-- ---- a session's next step

pub deeds_more : (client shards shard : ℕ) (served : List Served) (one : Served)
    → all_deeds_of client shards shard (served ++ one ∷ []) ≡ all_deeds_of client shards shard served ++ deeds_of client shards shard one
deeds_more client shards shard served one =
    flat_map-append (deeds_of client shards shard) served (one ∷ [])
    ∙ ap (λ l. all_deeds_of client shards shard served ++ l) (append-nil (deeds_of client shards shard one))

module _ (client shards shard : ℕ) where
  -- one more deed, at the last place, or at another shard
  pub looks_deed : (list : List Deed) (from low : ℕ) (ps qs : List ℕ) (served : List Served) (one : Served)
      → Stands list from ps (all_deeds_of client shards shard served) → LooksFit shards shard low ps served
      → ((l : ℕ) → LooksFit shards shard l qs (one ∷ []))
      → LooksFit shards shard low (ps ++ qs) (served ++ one ∷ [])
  looks_deed list from low [] qs [] one stands fit last = last low
  looks_deed list from low (p ∷ ps) qs [] one stands fit last = absurd stands
  looks_deed list from low ps qs (Called number ask reply made to ∷ served) one stands fit last =
      at_shard (λ from low ps stands fit. looks_deed list from low ps qs served one stands fit last)
      (shard == shard_of (key_of ask) shards) ps stands fit
    where
      at_shard : ((from low : ℕ) (ps : List ℕ) → Stands list from ps (all_deeds_of client shards shard served)
          → LooksFit shards shard low ps served
          → LooksFit shards shard low (ps ++ qs) (served ++ one ∷ []))
          → (b : Bool) (ps : List ℕ)
          → Stands list from ps ((if b then Call client to number ask reply made ∷ [] else []) ++ all_deeds_of client shards shard served)
          → LooksFit shards shard (behind_first b low ps) (rest_if b ps) served
          → LooksFit shards shard (behind_first b low (ps ++ qs)) (rest_if b (ps ++ qs)) (served ++ one ∷ [])
      at_shard next true [] stands fit = absurd stands
      at_shard next true (p ∷ ps) stands fit = next (suc p) (max low (suc p)) ps stands.2 fit
      at_shard next false ps stands fit = next from low ps stands fit
  looks_deed list from low [] qs (Queried number ask replies ∷ served) one stands fit last = absurd stands
  looks_deed list from low (p ∷ ps) qs (Queried number ask replies ∷ served) one stands fit last =
      looks_deed list (suc p) (max low (suc p)) ps qs served one stands.2 fit last
  looks_deed list from low ps qs (Looked number peek ∷ served) one stands fit last =
      (fit.0, looks_deed list from (seen_if (shard == shard_of peek.key shards) low peek.at) ps qs served one stands fit.1 last)

module _ (shards shard : ℕ) where
  -- one more peek, behind the own deeds and the earlier peeks
  pub looks_peek : (low : ℕ) (ps : List ℕ) (served : List Served) (number : ℕ) (peek : Peek)
      → LooksFit shards shard low ps served
      → (shard ≡ shard_of peek.key shards → (low ≤ peek.at) × ((p : ℕ) → 0 < times p ps → suc p ≤ peek.at)
      × ((n : ℕ) (other : Peek) → Among (Looked n other) served → shard ≡ shard_of other.key shards → other.at ≤ peek.at))
      → LooksFit shards shard low ps (served ++ Looked number peek ∷ [])
  looks_peek low ps [] number peek fit late = (λ here. (late here).0, tt)
  looks_peek low ps (Called n ask reply made to ∷ served) number peek fit late =
      looks_peek (behind_first (shard == shard_of (key_of ask) shards) low ps) (rest_if (shard == shard_of (key_of ask) shards) ps) served
      number peek fit
      (λ here. (
        below (shard == shard_of (key_of ask) shards) ps (late here).0 (late here).1,
        less (shard == shard_of (key_of ask) shards) ps (late here).1,
        λ n other a there. (late here).2 n other (inr a) there,
      ))
    where
      below : (b : Bool) (ps : List ℕ) → low ≤ peek.at → ((p : ℕ) → 0 < times p ps → suc p ≤ peek.at) → behind_first b low ps ≤ peek.at
      below true [] le all = le
      below true (p ∷ ps) le all = let k =
          all p (let e = same_number p in let f : cond {A = ℕ} (p == p) 1 0 ≡ 1 = rw e refl in omega arith) in omega arith
      below false ps le all = le

      less : (b : Bool) (ps : List ℕ) → ((p : ℕ) → 0 < times p ps → suc p ≤ peek.at) → (p : ℕ) → 0 < times p (rest_if b ps) → suc p ≤ peek.at
      less true [] all p t = all p t
      less true (q ∷ ps) all p t = all p (omega arith)
      less false ps all p t = all p t
  looks_peek low ps (Queried n ask replies ∷ served) number peek fit late =
      looks_peek (behind_first true low ps) (rest_if true ps) served number peek fit
      (λ here. (
        below ps (late here).0 (late here).1,
        less ps (late here).1,
        λ n other a there. (late here).2 n other (inr a) there,
      ))
    where
      below : (ps : List ℕ) → low ≤ peek.at → ((p : ℕ) → 0 < times p ps → suc p ≤ peek.at) → behind_first true low ps ≤ peek.at
      below [] le all = le
      below (p ∷ ps) le all = let k = all p (let e = same_number p in let f : cond {A = ℕ} (p == p) 1 0 ≡ 1 = rw e refl in omega arith) in
          omega arith

      less : (ps : List ℕ) → ((p : ℕ) → 0 < times p ps → suc p ≤ peek.at) → (p : ℕ) → 0 < times p (rest_if true ps) → suc p ≤ peek.at
      less [] all p t = all p t
      less (q ∷ ps) all p t = all p (omega arith)
  looks_peek low ps (Looked n other ∷ served) number peek fit late = (
    fit.0,
    looks_peek (seen_if (shard == shard_of other.key shards) low other.at) ps served number peek fit.1
        (λ here. (
          below (shard == shard_of other.key shards) refl (late here).0 (λ there. (late here).2 n other (inl refl) there),
          (late here).1,
          λ n' other' a there. (late here).2 n' other' (inr a) there,
        )),
  )
    where
      below : (b : Bool) → (shard == shard_of other.key shards) ≡ b → low ≤ peek.at → (shard ≡ shard_of other.key shards → other.at ≤ peek.at) → seen_if b low other.at ≤ peek.at
      below true e le all = all (eqb-true shard (shard_of other.key shards) e)
      below false e le all = le

-- ---- one gift

pub no_gift : (joiner : ℕ) (h : List Deed) → filter_map (gift_in joiner) h ≡ [] → given_to joiner h ≡ []
no_gift joiner [] e = refl
no_gift joiner (Call client to seq ask reply made ∷ past) e = no_gift joiner past e
no_gift joiner (Asked client seq ask reply ∷ past) e = no_gift joiner past e
no_gift joiner (Taken change verdict ∷ past) e = no_gift joiner past e
no_gift joiner (Gave to gave ∷ past) e = at_test (to == joiner) e (λ f. no_gift joiner past f)
  where
    at_test : (b : Bool) → cons_option (if b then Some gave else None) (filter_map (gift_in joiner) past) ≡ []
        → (filter_map (gift_in joiner) past ≡ [] → given_to joiner past ≡ [])
        → given_to joiner past ++ own_where b gave (own_changes past) ≡ []
    at_test true e next = absurd (no_item gave (filter_map (gift_in joiner) past) e)
    at_test false e next = rw (next e) refl
no_gift joiner (Imaged image ∷ past) e = no_gift joiner past e
no_gift joiner (Reported report ∷ past) e = no_gift joiner past e
no_gift joiner (Heard report ∷ past) e = no_gift joiner past e
no_gift joiner (Swept moment expired ∷ past) e = no_gift joiner past e

-- Where a history gave the joiner once, that gift's changes are all that it gave it.
pub given_once : (joiner : ℕ) (gave : What) (past h : List Deed) → Older (Gave joiner gave ∷ past) h
    → filter_map (gift_in joiner) h ≡ gave ∷ [] → given_to joiner h ≡ own_where true gave (own_changes past)
given_once joiner gave past [] o e = absurd (no_item (Gave joiner gave) past o)
given_once joiner gave past (first ∷ rest) (inl is) e =
    subst (λ z. given_to joiner z ≡ own_where true gave (own_changes past)) is here
  where
    once : filter_map (gift_in joiner) past ≡ []
    once = tail (filter_map (gift_in joiner) past) (subst (λ z. filter_map (gift_in joiner) z ≡ gave ∷ []) (sym is) e)
      where
        tail : (xs : List What) → cons_option (if joiner == joiner then Some gave else None) xs ≡ gave ∷ [] → xs ≡ []
        tail xs e = at_test (joiner == joiner) (same_number joiner) e
          where
            at_test : (b : Bool) → b ≡ true → cons_option (if b then Some gave else None) xs ≡ gave ∷ [] → xs ≡ []
            at_test true f e = cc
            at_test false f e = absurd (true_false (sym f))

    here : given_to joiner past ++ own_where (joiner == joiner) gave (own_changes past) ≡ own_where true gave (own_changes past)
    here = ap (λ l. l ++ own_where (joiner == joiner) gave (own_changes past)) (no_gift joiner past once)
        ∙ ap (λ b. own_where b gave (own_changes past)) (same_number joiner)
given_once joiner gave past (Call client to seq ask reply made ∷ rest) (inr o) e = given_once joiner gave past rest o e
given_once joiner gave past (Asked client seq ask reply ∷ rest) (inr o) e = given_once joiner gave past rest o e
given_once joiner gave past (Taken change verdict ∷ rest) (inr o) e = given_once joiner gave past rest o e
given_once joiner gave past (Gave to other ∷ rest) (inr o) e = at_test (to == joiner) e (λ f. given_once joiner gave past rest o f)
  where
    among : (q : List Deed) → Older (Gave joiner gave ∷ past) q → filter_map (gift_in joiner) q ≡ [] → ⊥
    among [] o e = no_item (Gave joiner gave) past o
    among (d ∷ q) (inl is) e = no (joiner == joiner) (same_number joiner) (subst (λ z. filter_map (gift_in joiner) z ≡ []) (sym is) e)
      where
        no : (b : Bool) → b ≡ true → cons_option (if b then Some gave else None) (filter_map (gift_in joiner) past) ≡ [] → ⊥
        no true f e = cc
        no false f e = cc
    among (d ∷ q) (inr o) e = among q o (rest_none (gift_in joiner d) (filter_map (gift_in joiner) q) e)
      where
        rest_none : (o : Option What) (xs : List What) → cons_option o xs ≡ [] → xs ≡ []
        rest_none None xs e = e
        rest_none (Some w) xs e = absurd (no_item w xs e)

    at_test : (b : Bool) → cons_option (if b then Some other else None) (filter_map (gift_in joiner) rest) ≡ gave ∷ []
        → (filter_map (gift_in joiner) rest ≡ gave ∷ [] → given_to joiner rest ≡ own_where true gave (own_changes past))
        → given_to joiner rest ++ own_where b other (own_changes rest) ≡ own_where true gave (own_changes past)
    at_test true e next = absurd (among rest o (let t : filter_map (gift_in joiner) rest ≡ [] = cc in t))
    at_test false e next = append-nil (given_to joiner rest) ∙ next e
given_once joiner gave past (Imaged image ∷ rest) (inr o) e = given_once joiner gave past rest o e
given_once joiner gave past (Reported report ∷ rest) (inr o) e = given_once joiner gave past rest o e
given_once joiner gave past (Heard report ∷ rest) (inr o) e = given_once joiner gave past rest o e
given_once joiner gave past (Swept moment expired ∷ rest) (inr o) e = given_once joiner gave past rest o e
