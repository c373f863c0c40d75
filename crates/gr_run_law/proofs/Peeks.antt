-- Peeks are behind the client's own deeds, and come in order.
use Rattle.std.proofs.Common.{◌≡◌, ℕ, suc, ◌+◌, ◌<◌, ◌≤◌, ◌⊎◌, ◌==◌, Bool, true, false, List, [], ◌∷◌, ◌++◌, map, Some, None}
use Rattle.std.proofs.Common.{refl, sym, ap, ◌∙◌, subst, arith, inl, inr, max, if◌then◌else◌, ne_eqb, eqb-true}
use Rattle.std.specs.Prelude.{slice_get}
use Rattle.std.specs.List.{AllByRecursion}
use native.Mathlib.Decide.{ℕ_discrete}
use mathlib.Core.Logic.{dite}
use Rattle.gr_value.specs.Shard.{shard_of}
use Rattle.gr_turn.specs.Views.{times}
use Rattle.gr_history.specs.Asks.{key_of}
use Rattle.gr_history.specs.declared.deed.Deed.{Deed}
use Rattle.gr_history.specs.declared.deed.Deed.TheVariants.{Call}
use Rattle.gr_law.specs.Grids.{Among}
use Rattle.gr_script.specs.Steps.{AreNumbered}
use Rattle.gr_world.specs.Events.{Peek}
use Rattle.gr_world.specs.Served.{Served, Called, Queried, Looked, step_of, deeds_of, all_deeds_of, number_in}
use Rattle.gr_run_law.specs.Shares.{Stands}
use Rattle.gr_run_law.specs.Threads.{LooksFit, behind_first, rest_if, seen_if}
use Rattle.gr_run_law.proofs.Sharing.{entry_at}
use Rattle.gr_run_law.proofs.Lists.{all_at, all_append, same_number, none_isnt_some, same_in_some}

behind_more : (b : Bool) (low : ℕ) (ps : List ℕ) → low ≤ behind_first b low ps
behind_more true low [] = omega arith
behind_more true low (p ∷ ps) = omega arith
behind_more false low ps = omega arith

-- where a peek of these looks, if it is at the shard
abbrev Tells : ℕ → ℕ → ℕ → Served → Type 0
Tells shards shard low (Called number ask reply made to) = Unit {0}
Tells shards shard low (Queried number ask replies) = Unit {0}
Tells shards shard low (Looked number peek) = shard ≡ shard_of peek.key shards → low ≤ peek.at

-- No other step is a peek.
abbrev IsLook : Served → Type 0
IsLook (Called number ask reply made to) = ⊥
IsLook (Queried number ask replies) = ⊥
IsLook (Looked number peek) = Unit {0}

a_look : (number : ℕ) (peek : Peek) (one : Served) → Looked number peek ≡ one → IsLook one
a_look number peek one is = subst IsLook is tt

module _ (shards shard : ℕ) where
  tells_more : (low high : ℕ) (one : Served) → low ≤ high → Tells shards shard high one → Tells shards shard low one
  tells_more low high (Called number ask reply made to) le t = tt
  tells_more low high (Queried number ask replies) le t = tt
  tells_more low high (Looked number peek) le t = λ is. let k = t is in omega arith

  -- each peek at the shard looks behind `low`
  pub told_by : (low : ℕ) (ps : List ℕ) (served : List Served) → LooksFit shards shard low ps served → (one : Served) → Among one served
      → Tells shards shard low one
  told_by low ps [] fit one a = absurd a
  told_by low ps (Called number ask reply made to ∷ served) fit one (inl is) = subst (Tells shards shard low) (sym is) tt
  told_by low ps (Called number ask reply made to ∷ served) fit one (inr a) =
      tells_more low _ one (behind_more (shard == shard_of (key_of ask) shards) low ps)
      (told_by (behind_first (shard == shard_of (key_of ask) shards) low ps) (rest_if (shard == shard_of (key_of ask) shards) ps)
      served fit one a)
  told_by low ps (Queried number ask replies ∷ served) fit one (inl is) = subst (Tells shards shard low) (sym is) tt
  told_by low ps (Queried number ask replies ∷ served) fit one (inr a) =
      tells_more low _ one (behind_more true low ps) (told_by (behind_first true low ps) (rest_if true ps) served fit one a)
  told_by low ps (Looked number peek ∷ served) fit one (inl is) = subst (Tells shards shard low) (sym is) fit.0
  told_by low ps (Looked number peek ∷ served) fit one (inr a) =
      tells_more low _ one (seen_more (shard == shard_of peek.key shards) refl)
      (told_by (seen_if (shard == shard_of peek.key shards) low peek.at) ps served fit.1 one a)
    where
      seen_more : (b : Bool) → (shard == shard_of peek.key shards) ≡ b → low ≤ seen_if b low peek.at
      seen_more true e = fit.0 (eqb-true shard (shard_of peek.key shards) e)
      seen_more false e = omega arith

-- ---- numbers

number_of : Served → ℕ
number_of one = (step_of one).seq

-- each deed of these steps has at least this number
abbrev IsFrom : ℕ → ℕ → Deed → Type 0
IsFrom client least d = (number : ℕ) → number_in client d ≡ Some number → least ≤ number

some_number : (b : Bool) (own number : ℕ) → (if b then Some own else None) ≡ Some number → own ≡ number
some_number true own number h = same_in_some own number h
some_number false own number h = absurd (none_isnt_some number h)

module _ (client shards shard : ℕ) where
  from_one : (least : ℕ) (one : Served) → least ≤ (step_of one).seq
      → AllByRecursion (IsFrom client least) (deeds_of client shards shard one)
  from_one least (Called number ask reply made to) le = at_shard (shard == shard_of (key_of ask) shards)
    where
      at_shard : (b : Bool) → AllByRecursion (IsFrom client least) (if b then Call client to number ask reply made ∷ [] else [])
      at_shard true = (λ n h. let e = some_number (client == client) number n h in omega arith, tt)
      at_shard false = tt
  from_one least (Queried number ask replies) le = (λ n h. let e = some_number (client == client) number n h in omega arith, tt)
  from_one least (Looked number peek) le = tt

  pub all_from : (least first : ℕ) (served : List Served) → least ≤ first → AreNumbered first (map step_of served)
      → AllByRecursion (IsFrom client least) (all_deeds_of client shards shard served)
  all_from least first [] le n = tt
  all_from least first (one ∷ served) le n =
      all_append (IsFrom client least) (deeds_of client shards shard one) (all_deeds_of client shards shard served)
      (from_one least one (let e = n.0 in omega arith)) (all_from least (first + 1) served (omega arith) n.1)

  -- a peek of one of these steps has at least this number
  pub peek_from : (first : ℕ) (served : List Served) (number : ℕ) (peek : Peek)
      → AreNumbered first (map step_of served) → Among (Looked number peek) served → first ≤ number
  peek_from first [] number peek n a = absurd a
  peek_from first (one ∷ served) number peek n (inl is) =
      let e : number ≡ first = ap (λ w. (step_of w).seq) is ∙ n.0 in omega arith
  peek_from first (one ∷ served) number peek n (inr a) =
      let e = peek_from (first + 1) served number peek n.1 a in omega arith

-- ---- behind the own deeds of earlier steps

module _ (client shards shard : ℕ) (number : ℕ) (peek : Peek)
    (here : shard ≡ shard_of peek.key shards) where
  abbrev Look : Served
  Look = Looked number peek

  -- The deed at this place has a lesser number than the peek, so it stands before the peek's place.
  Behind : List Deed → ℕ → Type 0
  Behind list p = (deed : Deed) (earlier : ℕ) → slice_get list p ≡ Some deed → number_in client deed ≡ Some earlier → earlier < number
      → suc p ≤ peek.at

  -- where a deed stands at the first place
  at_deed : (list : List Deed) (low p q : ℕ) (qs : List ℕ) (served : List Served)
      → LooksFit shards shard (max low (suc q)) qs served → Among Look served → 0 < times p (q ∷ qs)
      → (0 < times p qs → suc p ≤ peek.at) → suc p ≤ peek.at
  at_deed list low p q qs served fit a t next = dite (ℕ_discrete p q)
      (λ (e : p ≡ q). let k = (told_by shards shard (max low (suc q)) qs served fit Look a here) in omega arith)
      (λ ne. let s : 0 < 0 + times p qs = rw (ne_eqb p q ne) at t in next (omega arith))

  pub late_of : (list : List Deed) (from low first : ℕ) (ps : List ℕ) (served : List Served)
      → Stands list from ps (all_deeds_of client shards shard served) → LooksFit shards shard low ps served
      → AreNumbered first (map step_of served) → Among Look served → (p : ℕ) → 0 < times p ps
      → (deed : Deed) (earlier : ℕ) → slice_get list p ≡ Some deed → number_in client deed ≡ Some earlier → earlier < number → suc p ≤ peek.at
  late_of list from low first ps [] stands fit n a p t deed earlier get is less = absurd a
  late_of list from low first ps (Called own ask reply made to ∷ served) stands fit n (inl same) p t deed earlier get is less =
      absurd (a_look number peek _ same)
  late_of list from low first ps (Called own ask reply made to ∷ served) stands fit n (inr a) p t deed earlier get is less =
      at_shard (λ from low ps stands fit t. late_of list from low (first + 1) ps served stands fit n.1 a p t deed earlier get is less)
      (shard == shard_of (key_of ask) shards) ps stands fit t
    where
      at_shard : ((from low : ℕ) (ps : List ℕ) → Stands list from ps (all_deeds_of client shards shard served)
          → LooksFit shards shard low ps served → 0 < times p ps → suc p ≤ peek.at)
          → (b : Bool) (ps : List ℕ)
          → Stands list from ps ((if b then Call client to own ask reply made ∷ [] else []) ++ all_deeds_of client shards shard served)
          → LooksFit shards shard (behind_first b low ps) (rest_if b ps) served → 0 < times p ps → suc p ≤ peek.at
      at_shard next true [] stands fit t = absurd stands
      at_shard next true (q ∷ qs) stands fit t = at_deed list low p q qs served fit a t
          (λ t'. next (suc q) (max low (suc q)) qs stands.2 fit t')
      at_shard next false ps stands fit t = next from low ps stands fit t
  late_of list from low first ps (Queried own ask replies ∷ served) stands fit n (inl same) p t deed earlier get is less = absurd (a_look number peek _ same)
  late_of list from low first [] (Queried own ask replies ∷ served) stands fit n (inr a) p t deed earlier get is less = absurd stands
  late_of list from low first (q ∷ qs) (Queried own ask replies ∷ served) stands fit n (inr a) p t deed earlier get is less =
      at_deed list low p q qs served fit a t
      (λ t'. late_of list (suc q) (max low (suc q)) (first + 1) qs served stands.2 fit n.1 a p t' deed earlier get is less)
  late_of list from low first ps (Looked own other ∷ served) stands fit n (inl same) p t deed earlier get is less =
      let entry = entry_at list from ps (all_deeds_of client shards shard served) p (IsFrom client (first + 1)) stands
      (all_at (IsFrom client (first + 1)) (all_deeds_of client shards shard served)
      (all_from client shards shard (first + 1) (first + 1) served (omega arith) n.1)) t in
      let least : first + 1 ≤ earlier = entry.2 earlier (ap (number_in client) (same_in_some entry.0 deed (sym entry.1 ∙ get)) ∙ is) in
      let e : number ≡ first = ap (λ w. (step_of w).seq) same ∙ n.0 in
      absurd (omega arith)
  late_of list from low first ps (Looked own other ∷ served) stands fit n (inr a) p t deed earlier get is less =
      late_of list from (seen_if (shard == shard_of other.key shards) low other.at) (first + 1) ps served stands fit.1 n.1
      a p t deed earlier get is less

-- ---- in order

pub in_order : (shards shard : ℕ) (low first : ℕ) (ps : List ℕ) (served : List Served) → LooksFit shards shard low ps served
    → AreNumbered first (map step_of served) → (number earlier : ℕ) (peek other : Peek)
    → shard ≡ shard_of peek.key shards → shard ≡ shard_of other.key shards
    → Among (Looked number peek) served → Among (Looked earlier other) served → earlier < number → other.at ≤ peek.at
in_order shards shard low first ps [] fit n number earlier peek other here there a b less = absurd a
in_order shards shard low first ps (Called own ask reply made to ∷ served) fit n number earlier peek other here there
    (inl same) b less =
    absurd (a_look number peek _ same)
in_order shards shard low first ps (Called own ask reply made to ∷ served) fit n number earlier peek other here there
    (inr a) (inl same) less =
    absurd (a_look earlier other _ same)
in_order shards shard low first ps (Called own ask reply made to ∷ served) fit n number earlier peek other here there
    (inr a) (inr b) less =
    in_order shards shard (behind_first (shard == shard_of (key_of ask) shards) low ps) (first + 1)
    (rest_if (shard == shard_of (key_of ask) shards) ps) served
    fit n.1 number earlier peek other here there a b less
in_order shards shard low first ps (Queried own ask replies ∷ served) fit n number earlier peek other here there
    (inl same) b less =
    absurd (a_look number peek _ same)
in_order shards shard low first ps (Queried own ask replies ∷ served) fit n number earlier peek other here there
    (inr a) (inl same) less =
    absurd (a_look earlier other _ same)
in_order shards shard low first ps (Queried own ask replies ∷ served) fit n number earlier peek other here there
    (inr a) (inr b) less =
    in_order shards shard (behind_first true low ps) (first + 1) (rest_if true ps) served
    fit n.1 number earlier peek other here there a b less
in_order shards shard low first ps (Looked own one ∷ served) fit n number earlier peek other here there
    (inl same) b less =
    let e : number ≡ first = ap (λ w. (step_of w).seq) same ∙ n.0 in absurd (least b e)
  where
    least : (Looked earlier other ≡ Looked own one) ⊎ Among (Looked earlier other) served → number ≡ first → ⊥
    least (inl is) e = let k : earlier ≡ first = ap (λ w. (step_of w).seq) is ∙ n.0 in omega arith
    least (inr c) e = let k = peek_from 0 shards shard (first + 1) served earlier other n.1 c in omega arith
in_order shards shard low first ps (Looked own one ∷ served) fit n number earlier peek other here there
    (inr a) (inl same) less =
    let k = (told_by shards shard (seen_if (shard == shard_of one.key shards) low one.at) ps served fit.1 (Looked number peek) a here) in
    let at_one : shard ≡ shard_of one.key shards = there ∙ ap (λ p. shard_of p.key shards) (peek_same same) in
    let e : seen_if (shard == shard_of one.key shards) low one.at ≡ one.at = rw (← at_one, same_number shard) refl in
    let p : other.at ≡ one.at = ap (λ p. p.at) (peek_same same) in omega arith
  where
    peek_same : Looked earlier other ≡ Looked own one → other ≡ one
    peek_same e = cc
in_order shards shard low first ps (Looked own one ∷ served) fit n number earlier peek other here there
    (inr a) (inr b) less =
    in_order shards shard (seen_if (shard == shard_of one.key shards) low one.at) (first + 1) ps served
    fit.1 n.1 number earlier peek other here there a b less
