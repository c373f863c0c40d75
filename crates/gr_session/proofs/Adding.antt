-- What deeds that are added one after the other leave of a seat.
use Rattle.std.proofs.Common.{◌≡◌, ◌≢◌, ℕ, suc, ◌+◌, ◌<◌, ◌≤◌, ◌==◌, Bool, true, false, List, [], ◌∷◌, ◌++◌, length, get_or, set, cond}
use Rattle.std.proofs.Common.{if◌then◌else◌, refl, sym, ap, ◌∙◌, subst, arith, append-nil, append_assoc, length-append, eqb-true, eq-eqb}
use Rattle.std.proofs.lemmas.List.{get_or-set_same, get_or-set_other}
use Rattle.gr_value.specs.Lists.{StartsWith}
use Rattle.gr_turn.specs.declared.view.View.{View}
use Rattle.gr_turn.specs.Views.{times}
use Rattle.gr_history.specs.declared.deed.Deed.{Deed}
use Rattle.gr_history.specs.declared.identity.Identity.{Identity}
use Rattle.gr_run_law.specs.Shares.{Stands}
use Rattle.gr_run_law.proofs.Growing.{stands_on, stands_more}
use Rattle.gr_run_law.proofs.Lists.{true_false}
use Rattle.gr_member.specs.declared.plan.Plan.{Plan}
use Rattle.gr_member.specs.declared.replica.Origin.{Origin}
use Rattle.gr_member.specs.Seats.{Place, Adds}
use Rattle.gr_member.specs.Passes.{AddsAt, AreReady, LooksAll}
use Rattle.gr_session.specs.Steps.{AddsEach}
use Rattle.gr_session.specs.Waiting.{HasMadeNothing, IsReadyFirst, WaitedFor}

module _ {A : Type 0} where
  pub starts_trans : (a b c : List A) → StartsWith a b → StartsWith b c → StartsWith a c
  starts_trans a b c f g = (g.0 ++ f.0, f.1 ∙ ap (λ (l : List A). l ++ f.0) g.1 ∙ append_assoc c g.0 f.0)

  starts_length : (a b : List A) → StartsWith a b → length b ≤ length a
  starts_length a b f = let k = ap length f.1 in let l = length-append b f.0 in omega arith

-- ---- what stands

-- More places were made, and there these deeds stand.
pub record Grown (s t : Place) (ds : List Deed) : Type 0 where
  pub places : List ℕ
  pub made : t.view.made ≡ s.view.made ++ places
  pub stands : Stands t.view.seen 0 t.view.made ds

pub stands_each : (s t : Place) (xs ds : List Deed) → Stands s.view.seen 0 s.view.made xs → AddsEach s ds t → Grown s t (xs ++ ds)
stands_each s t xs [] stands same = record {
  places = [];
  made = ap (λ (v : View Deed Origin). v.made) same ∙ sym (append-nil s.view.made);
  stands = subst (λ (v : View Deed Origin). Stands v.seen 0 v.made (xs ++ [])) (sym same)
      (subst (λ (l : List Deed). Stands s.view.seen 0 s.view.made l) (sym (append-nil xs)) stands);
}
stands_each s t xs (deed ∷ ds) stands adds =
    let u = adds.0 in
    let before = adds.1.0 in
    let one = adds.1.1 in
    let here : Stands u.view.seen 0 u.view.made (xs ++ deed ∷ []) =
    subst (λ (l : List Deed). Stands l 0 u.view.made (xs ++ deed ∷ [])) (sym one.seen)
    (subst (λ (l : List ℕ). Stands (before ++ deed ∷ []) 0 l (xs ++ deed ∷ [])) (sym one.made)
    (stands_more before 0 s.view.made xs deed (stands_on s.view.seen before 0 s.view.made xs one.known stands))) in
    let rest = stands_each u t (xs ++ deed ∷ []) ds here adds.2 in
    record {
      places = length before ∷ rest.places;
      made = rest.made ∙ ap (λ (l : List ℕ). l ++ rest.places) one.made ∙ append_assoc s.view.made (length before ∷ []) rest.places;
      stands = subst (λ (l : List Deed). Stands t.view.seen 0 t.view.made l) (append_assoc xs (deed ∷ []) ds) rest.stands;
    }

stands_low : (list : List Deed) (low : ℕ) (ps : List ℕ) (ds : List Deed) → Stands list low ps ds → low ≤ length list
stands_low list low [] [] h = h
stands_low list low (p ∷ ps) (d ∷ ds) h = let k = stands_low list (suc p) ps ds h.2 in let l = h.0 in omega arith
stands_low list low [] (d ∷ ds) h = absurd h
stands_low list low (p ∷ ps) [] h = absurd h

-- Each place is one of the list's.
pub stands_below : (list : List Deed) (low : ℕ) (ps : List ℕ) (ds : List Deed) → Stands list low ps ds
    → (p : ℕ) → 0 < times p ps → suc p ≤ length list
stands_below list low [] [] h p t = absurd (omega arith)
stands_below list low (q ∷ ps) (d ∷ ds) h p t = at_test (p == q) refl t (stands_below list (suc q) ps ds h.2 p)
  where
    at_test : (b : Bool) → (p == q) ≡ b → 0 < cond {A = ℕ} b 1 0 + times p ps → (0 < times p ps → suc p ≤ length list) → suc p ≤ length list
    at_test true e t next = let same = eqb-true p q e in let k = stands_low list (suc q) ps ds h.2 in omega arith
    at_test false e t next = next (omega arith)
stands_below list low [] (d ∷ ds) h p t = absurd h
stands_below list low (q ∷ ps) [] h p t = absurd h

-- ---- at each shard

-- a deed that was added at the shard k, and none at the others
pub adds_at : (k : ℕ) (p q : List Place) (deed : Deed) → AddsAt k p deed q → (shard : ℕ) (s : Place) → shard < length p
    → AddsEach (get_or p shard s) (if shard == k then deed ∷ [] else []) (get_or q shard s)
adds_at k p q deed a shard s less = at_test (shard == k) refl
  where
    at_test : (b : Bool) → (shard == k) ≡ b → AddsEach (get_or p shard s) (if b then deed ∷ [] else []) (get_or q shard s)
    at_test true e =
        let same = eqb-true shard k e in
        let now : get_or q shard s ≡ a.after =
        ap (λ (l : List Place). get_or l shard s) a.now
        ∙ ap (λ (i : ℕ). get_or (set p k a.after) i s) same ∙ get_or-set_same p k a.after s a.there in (
          a.after,
          subst (λ (i : ℕ). Adds (get_or p i s) deed a.after) (sym same) (a.turned s),
          ap (λ (x : Place). x.view) now,
        )
    at_test false e =
        let apart : shard ≢ k = λ same. true_false (sym (eq-eqb shard k same) ∙ e) in
        ap (λ (x : Place). x.view)
        (ap (λ (l : List Place). get_or l shard s) a.now ∙ get_or-set_other p k shard a.after s apart)

-- ---- waiting

later_more : (made : List ℕ) (n low : ℕ) → ((p : ℕ) → 0 < times p made → low ≤ p) → low ≤ n
    → (p : ℕ) → 0 < times p (made ++ n ∷ []) → low ≤ p
later_more [] n low all le p t = at_test (p == n) refl t
  where
    at_test : (b : Bool) → (p == n) ≡ b → 0 < cond {A = ℕ} b 1 0 + 0 → low ≤ p
    at_test true e t = let same = eqb-true p n e in omega arith
    at_test false e t = absurd (omega arith)
later_more (x ∷ made) n low all le p t = at_test (p == x) refl t (later_more made n low (λ q u. all q (more q u)) le p)
  where
    more : (q : ℕ) → 0 < times q made → 0 < times q (x ∷ made)
    more q u = let k : times q (x ∷ made) ≡ cond {A = ℕ} (q == x) 1 0 + times q made = refl in omega arith

    at_test : (b : Bool) → (p == x) ≡ b → 0 < cond {A = ℕ} b 1 0 + times p (made ++ n ∷ [])
        → (0 < times p (made ++ n ∷ []) → low ≤ p) → low ≤ p
    at_test true e t next = all p (subst (λ (c : Bool). 0 < cond {A = ℕ} c 1 0 + times p made) (sym e) (omega arith))
    at_test false e t next = next (omega arith)

-- Deeds that are added stand behind what was ready first.
pub ready_each : (id : Identity) (s t : Place) (ds : List Deed) → IsReadyFirst id s.view.seen s.view.made → AddsEach s ds t
    → IsReadyFirst id t.view.seen t.view.made
ready_each id s t [] r same = subst (λ (v : View Deed Origin). IsReadyFirst id v.seen v.made) (sym same) r
ready_each id s t (deed ∷ ds) r adds =
    let u = adds.0 in
    let before = adds.1.0 in
    let one = adds.1.1 in
    let past_first = starts_trans before s.view.seen r.past one.known r.begins in
    let le = starts_length before r.past past_first in
    ready_each id u t ds (record {
      past = r.past;
      begins = starts_trans u.view.seen before r.past (deed ∷ [], one.seen) past_first;
      ready = r.ready;
      later = λ p x. later_more s.view.made (length before) (length r.past) r.later le p (subst (λ (l : List ℕ). 0 < times p l) one.made x);
    }) adds.2

-- What was seen now is ready, and nothing was made before.
pub ready_now : (plan : Plan) (p q : List Place) → LooksAll p q → AreReady plan q → HasMadeNothing p → WaitedFor plan q
ready_now plan p q looks ready none shard s less =
    let many = looks.many in
    let here = looks.each shard s (omega arith) in
    let made : (get_or q shard s).view.made ≡ [] = here.made ∙ none shard s (omega arith) in
    record {
      past = (get_or q shard s).view.seen;
      begins = ([], sym (append-nil (get_or q shard s).view.seen));
      ready = ready shard s less;
      later = λ place t. absurd (let none : 0 < times place [] = subst (λ (l : List ℕ). 0 < times place l) made t in omega arith);
    }
