-- What is known while passes are met and news are gathered.
use Rattle.std.proofs.Common.{◌≡◌, ◌≢◌, ◌⊎◌, ℕ, zero, suc, ◌<◌, ◌==◌, Bool, true, false, List, [], ◌∷◌, ◌++◌, length, map, get_or, Option, Some, None}
use Rattle.std.proofs.Common.{refl, sym, ap, ◌∙◌, subst, arith, inl, inr, reverse, flat_map, if◌then◌else◌, append_assoc, append-nil, ne_eqb}
use Rattle.std.specs.Prelude.{slice_get}
use Rattle.std.specs.List.{AllByRecursion}
use Rattle.std.specs.Option.{option_to_list}
use Rattle.std.proofs.lemmas.Grind.{reverse_onto}
use Rattle.std.proofs.lemmas.List.{map-append}
use Rattle.std.proofs.lemmas.Option.{slice_get-get_or}
use mathlib.Core.Logic.{dite}
use native.Mathlib.Decide.{ℕ_discrete}
use Rattle.gr_turn.specs.Views.{times}
use Rattle.gr_turn.proofs.Counts.{times-append}
use Rattle.gr_law.specs.Grids.{Among}
use Rattle.gr_run_law.proofs.Lists.{same_number}
use Rattle.gr_value.specs.Lists.{StartsWith}
use Rattle.gr_member.specs.Passes.{House, MeetsAll}
use Rattle.gr_member.specs.Seats.{Meets, Place, nowhere}
use Rattle.gr_member.proofs.Leaving.{empty_of}
use Rattle.gr_runner.specs.declared.gathering.Left.{Left}
use Rattle.gr_runner.specs.declared.gathering.News.{News}
use Rattle.gr_runner.specs.Gathering.{AreVisits, DesksKnow, KnowMore, Knows, KnowsAll, MeetsVisits, left_at, seats_at}
use Rattle.gr_host.specs.Houses.{ArePassesOf}
use Rattle.gr_runner.specs.Meeting.{MeetsAt, MeetsEach}
use Rattle.gr_runner.proofs.Desks.{met_many, met_there, not_there}
use Rattle.gr_runner.proofs.Lists.{all_weaker, starts_trans}

-- ---- one seat

starts_self : {E : Type 0} (xs : List E) → StartsWith xs xs
starts_self xs = ([], sym (append-nil xs))

knows_none : (s : Place) → Knows s s []
knows_none s = record {
  began = refl;
  counted = refl;
  begins = tt;
  made = λ n t. inl t;
  numbers_first = λ n t. t;
  numbers = tt;
}

knows_more : (first s r t : Place) (those : List Place) → Knows first s those → Meets s r t → Knows first t (r ∷ those)
knows_more first s r t those k m = record {
  began = m.began ∙ k.began;
  counted = m.counted ∙ k.counted;
  begins = (
    m.second,
    all_weaker (λ (p : Place). StartsWith s.view.seen p.view.seen) (λ (p : Place). StartsWith t.view.seen p.view.seen)
        (λ p b. starts_trans t.view.seen s.view.seen p.view.seen m.first b) those k.begins,
  );
  made = made;
  numbers_first = λ n h. more n (inl (k.numbers_first n h));
  numbers = (
    λ n h. more n (inr h),
    all_weaker (λ (p : Place). (n : ℕ) → 0 < times n p.view.parts → 0 < times n s.view.parts)
        (λ (p : Place). (n : ℕ) → 0 < times n p.view.parts → 0 < times n t.view.parts) (λ p b n h. more n (inl (b n h))) those k.numbers,
  );
}
  where
    more : (n : ℕ) → (0 < times n s.view.parts) ⊎ (0 < times n r.view.parts) → 0 < times n t.view.parts
    more n e = subst (λ (ps : List ℕ). 0 < times n ps) (sym m.numbers) (at e)
      where
        at : (0 < times n s.view.parts) ⊎ (0 < times n r.view.parts) → 0 < times n (s.view.parts ++ r.view.parts)
        at (inl h) = let both = times-append n s.view.parts r.view.parts in omega (arith, h, both)
        at (inr h) = let both = times-append n s.view.parts r.view.parts in omega (arith, h, both)

    Any : ℕ → Type 0
    Any n = (0 < times n first.view.made) ⊎ ((p : Place) × Among p (r ∷ those) × (0 < times n p.view.made))

    made : (n : ℕ) → 0 < times n t.view.made → Any n
    made n h = at_count (times n r.view.made) refl
      where
        old : (0 < times n first.view.made) ⊎ ((p : Place) × Among p those × (0 < times n p.view.made)) → Any n
        old (inl f) = inl f
        old (inr p) = inr (p.0, inr p.1, p.2)

        at_count : (c : ℕ) → times n r.view.made ≡ c → Any n
        at_count (suc c) e = inr (r, inl refl, omega (arith, e))
        at_count zero e =
            let both = times-append n s.view.made r.view.made in
            let all : 0 < times n (s.view.made ++ r.view.made) = subst (λ (ps : List ℕ). 0 < times n ps) m.made h in
            old (k.made n (omega (arith, e, both, all)))

-- ---- passes

pub all_none : (p : List Place) → KnowsAll p p []
all_none p = record { many = refl; each = λ k s l. knows_none (get_or p k s) }

pub all_more : (first p r q : List Place) (those : List (List Place)) → KnowsAll first p those → MeetsAll p r q
    → KnowsAll first q (r ∷ those)
all_more first p r q those k m = record {
  many = m.many ∙ k.many;
  each = λ i s l.
      let many = k.many in
      knows_more (get_or first i s) (get_or p i s) (get_or r i nowhere) (get_or q i s) (seats_at i those) (k.each i s l)
      (m.each i s nowhere (omega (arith, l, many)));
}

-- ---- all members

module _ (firsts desks : List (List Place)) (lefts : List Left) (left : Left) where
  -- behind the meeting of the thread's own pass
  pub record IsMetHome (after : List (List Place)) : Type 0 where
    pub many : length after ≡ length firsts
    pub each : (member : ℕ) (p : List Place) → member < length firsts
        → KnowsAll (get_or firsts member p) (get_or after member p)
        ((if left.home == member then left.pass ∷ [] else []) ++ flat_map (left_at member) lefts)

  pub at_home : (after : List (List Place)) → DesksKnow firsts desks lefts → MeetsAt left.home desks left.pass after → IsMetHome after
  at_home after d m = record { many = met_many left.home desks left.pass after m ∙ d.many; each = each }
    where
      Known : ℕ → List Place → Bool → Type 0
      Known member p b = KnowsAll (get_or firsts member p) (get_or after member p)
          ((if b then left.pass ∷ [] else []) ++ flat_map (left_at member) lefts)

      each : (member : ℕ) (p : List Place) → member < length firsts → Known member p (left.home == member)
      each member p l = dite (ℕ_discrete left.home member) here other
        where
          here : left.home ≡ member → Known member p (left.home == member)
          here is =
              subst (Known member p) (sym (ap (λ (i : ℕ). i == member) is ∙ same_number member))
              (all_more (get_or firsts member p) (get_or desks member p) left.pass (get_or after member p) (flat_map (left_at member) lefts)
              (d.each member p l)
              (subst (λ (i : ℕ). MeetsAll (get_or desks i p) left.pass (get_or after i p)) is
              (met_there left.home desks left.pass after p m)))

          other : left.home ≢ member → Known member p (left.home == member)
          other ne =
              subst (Known member p) (sym (ne_eqb left.home member ne))
              (subst (λ (x : List Place). KnowsAll (get_or firsts member p) x (flat_map (left_at member) lefts))
              (sym (not_there left.home desks left.pass after member p m (λ is. ne (sym is)))) (d.each member p l))

  at_visits : (after final : List (List Place)) → IsMetHome after → MeetsVisits after left.visits.items final
      → DesksKnow firsts final (left ∷ lefts)
  at_visits after final h m = record { many = m.many ∙ h.many; each = each }
    where
      Known : ℕ → List Place → List (List Place) → Type 0
      Known member p those = KnowsAll (get_or firsts member p) (get_or final member p) those

      Rest : ℕ → List (List Place)
      Rest member = (if left.home == member then left.pass ∷ [] else []) ++ flat_map (left_at member) lefts

      OfVisit : ℕ → Option (List Place) → List (List Place)
      OfVisit member v =
          (option_to_list v ++ (if left.home == member then left.pass ∷ [] else [])) ++ flat_map (left_at member) lefts

      each : (member : ℕ) (p : List Place) → member < length firsts
          → KnowsAll (get_or firsts member p) (get_or final member p) (flat_map (left_at member) (left ∷ lefts))
      each member p l = at m.all_or_none
        where
          within : member < length after
          within = let many = h.many in omega (arith, l, many)

          at : (left.visits.items ≡ []) ⊎ (length left.visits.items ≡ length after)
              → KnowsAll (get_or firsts member p) (get_or final member p) (OfVisit member (slice_get left.visits.items member))
          at (inl none) =
              subst (λ (v : Option (List Place)). KnowsAll (get_or firsts member p) (get_or final member p) (OfVisit member v))
              (sym (ap (λ (vs : List (List Place)). slice_get vs member) none))
              (subst (λ (x : List Place). KnowsAll (get_or firsts member p) x (OfVisit member None))
              (sym (m.not_met member p within none)) (h.each member p l))
          at (inr all) =
              let there : member < length left.visits.items = omega (arith, within, all) in
              subst (λ (v : Option (List Place)). KnowsAll (get_or firsts member p) (get_or final member p) (OfVisit member v))
              (sym (slice_get-get_or left.visits.items member p there))
              (all_more (get_or firsts member p) (get_or after member p) (get_or left.visits.items member p) (get_or final member p)
              ((if left.home == member then left.pass ∷ [] else []) ++ flat_map (left_at member) lefts) (h.each member p l)
              (m.met member p p within there))

pub left_more : (firsts desks after final : List (List Place)) (lefts : List Left) (left : Left) → DesksKnow firsts desks lefts
    → MeetsAt left.home desks left.pass after → MeetsVisits after left.visits.items final → DesksKnow firsts final (left ∷ lefts)
left_more firsts desks after final lefts left d m v =
    at_visits firsts desks lefts left after final (at_home firsts desks lefts left after d m) v

pub know_none : (desks : List (List Place)) → DesksKnow desks desks []
know_none desks = record { many = refl; each = λ member p l. all_none (get_or desks member p) }

-- ---- visits

pub visits_each : (desks visits after : List (List Place)) → length visits ≡ length desks → (visits ≡ [] → ⊥) → MeetsEach desks visits after
    → MeetsVisits desks visits after
visits_each desks visits after many some m = record {
  many = m.many;
  met = λ k p q l w. m.each k p q l;
  not_met = λ k p l none. absurd (some none);
  all_or_none = inr many;
}

pub visits_none : (desks visits : List (List Place)) → visits ≡ [] → MeetsVisits desks visits desks
visits_none desks visits none = record {
  many = refl;
  met = λ k p q l w. let long = ap length none in absurd (omega (arith, w, long));
  not_met = λ k p l e. refl;
  all_or_none = inl none;
}

-- ---- all threads

-- These are left, and what the others left is gathered.
pub record IsGathered (firsts : List (List Place)) (all rest : List Left) (desks : List (List Place)) (news : List News) (well : Bool)
    : Type 0 where
  pub done : List Left
  pub parts : all ≡ rest ++ done
  pub known : DesksKnow firsts desks done
  pub told : well ≡ true → map (λ (one : News). Some one) news ≡ map (λ (left : Left). left.news) (reverse done)

pub gathered_none : (all : List Left) (desks : List (List Place)) (news : List News) → length news ≡ 0
    → IsGathered desks all all desks news true
gathered_none all desks news none = record {
  done = [];
  parts = sym (append-nil all);
  known = know_none desks;
  told = λ w. ap (map (λ (one : News). Some one)) (empty_of news none);
}

module _ (firsts : List (List Place)) (all rest less : List Left) (left : Left) (desks after : List (List Place)) (news : List News)
    (well : Bool) where
  one_done : (done : List Left) → all ≡ rest ++ done → rest ≡ less ++ left ∷ [] → all ≡ less ++ left ∷ done
  one_done done parts e = parts ∙ ap (λ (l : List Left). l ++ done) e ∙ append_assoc less (left ∷ []) done

  pub gathered_news : (more : List News) (one : News) → IsGathered firsts all rest desks news well → rest ≡ less ++ left ∷ []
      → KnowMore desks left after → Some one ≡ left.news → more ≡ news ++ one ∷ [] → IsGathered firsts all less after more well
  gathered_news more one g e know is grown = record {
    done = left ∷ g.done;
    parts = one_done g.done g.parts e;
    known = know firsts g.done g.known;
    told = λ w.
        ap (map (λ (n : News). Some n)) grown ∙ map-append (λ (n : News). Some n) news (one ∷ [])
        ∙ ap (λ (l : List (Option News)). l ++ Some one ∷ []) (g.told w)
        ∙ ap (λ (n : Option News). map (λ (l : Left). l.news) (reverse g.done) ++ n ∷ []) is
        ∙ sym (map-append (λ (l : Left). l.news) (reverse g.done) (left ∷ []))
        ∙ ap (map (λ (l : Left). l.news)) (sym (reverse_onto g.done left []));
  }

  pub gathered_ill : IsGathered firsts all rest desks news well → rest ≡ less ++ left ∷ [] → KnowMore desks left after
      → IsGathered firsts all less after news false
  gathered_ill g e know = record {
    done = left ∷ g.done;
    parts = one_done g.done g.parts e;
    known = know firsts g.done g.known;
    told = λ w. absurd (no w);
  }
    where
      no : false ≡ true → ⊥
      no e = cc

pub all_last : {E : Type 0} (P : E → Type 0) (all less : List E) (x : E) → AllByRecursion P all → all ≡ less ++ x ∷ []
    → AllByRecursion P less × P x
all_last P all less x holds e = at less (subst (AllByRecursion P) e holds)
  where
    at : (ys : List _) → AllByRecursion P (ys ++ x ∷ []) → AllByRecursion P ys × P x
    at [] h = (tt, h.0)
    at (y ∷ ys) h = let r = at ys h.1 in ((h.0, r.0), r.1)

pub visits_some : (houses : List House) (visits : List (List Place)) → AreVisits houses visits → (visits ≡ [] → ⊥)
    → ArePassesOf houses visits
visits_some houses visits (inl none) some = absurd (some none)
visits_some houses visits (inr are) some = are
