-- What a tombstone was that expired, and what of its key was made behind.
use Rattle.std.proofs.Common.{◌+◌, zero, suc, ◌-◌, ◌≡◌, ◌⊎◌, ℕ, ◌≤◌, ◌<◌, List, [], ◌∷◌, Bool, true, false, ◌&&◌, ◌||◌, not, ◌==◌, refl}
use Rattle.std.proofs.Common.{sym, ap, ◌∙◌, subst, inl, inr, ⊎_elim, arith, max, if◌then◌else◌}
use Rattle.std.specs.Prelude.{Option, Some, None, map, nat_le}
use Rattle.std.specs.List.{filter_map}
use Rattle.std.proofs.lemmas.Bool.Decides.{nat_tests}
use Rattle.std.proofs.lemmas.Slice.Eq.{bytes_eq-Decides}
use Rattle.gr_history.specs.declared.identity.Identity.{Identity}
use Rattle.gr_stamp.specs.declared.change.Change.{Change}
use Rattle.gr_vector.specs.Ids.{Id, has_id, top}
use Rattle.gr_vector.specs.declared.report.Report.{Report}
use Rattle.gr_history.specs.declared.deed.Deed.{Deed}
use Rattle.gr_history.specs.declared.deed.Deed.TheVariants.{Call, Asked, Taken, Gave, Imaged, Reported, Heard, Swept}
use Rattle.gr_history.specs.Ids.{id_of, ids}
use Rattle.gr_history.specs.Made.{made_at, made}
use Rattle.gr_history.specs.Standing.{names, standing}
use Rattle.gr_history.specs.Calls.{reach}
use Rattle.gr_stamp.specs.Winner.{is_removal}
use Rattle.gr_history.specs.Floor.{removal_of, expired_at, expired}
use Rattle.gr_history.specs.Stable.{last_heard, is_later, is_covered, is_counting, is_stable_upto, is_stable, is_due_from}
use Rattle.gr_history.specs.Clock.{since, clock}
use Rattle.gr_law.specs.Grids.{identity, Among, Older, Grid}
use Rattle.gr_law.specs.Integrity.{IsMade, IsSound, IsClosed, IsHeardOrClosed, AreHeardOrClosed}
use Rattle.gr_history.specs.Lawful.{IsLawful, IsLawfulDeed}
use Rattle.gr_history.specs.Gifts.{IsReportOf}
use Rattle.gr_history.specs.Room.{IsSameReport, bare}
use Rattle.gr_law.proofs.Lists.{and_left, and_right, cases_le, known_ids, among_either, covers-has}
use Rattle.gr_law.proofs.Winners.{bytes_eq-itself}
use Rattle.gr_law.proofs.Made.{older_past, older_itself, older_lawful, older_ids, made_stamped, made_known}
use Rattle.gr_law.proofs.Made.{made_member, made_below}
use Rattle.gr_law.proofs.Steps.{true_isnt_false, standing_best, named_due, IsDue}
use Rattle.gr_law.proofs.Reached.{law_0-holds}
use Rattle.gr_stamp.specs.Expiry.{timeout}

-- What was made behind a place at which a change of its key was known has a greater version.
pub made_behind : (grid : Grid) → IsSound grid → (i : ℕ) (h q : List Deed) → Older h (grid.history i) → Older q h
    → (tombstone change : Change) → IsMade grid tombstone → has_id (id_of tombstone) (ids q) ≡ true
    → Among change (made h) → (Among change (made q) → ⊥) → tombstone.key ≡ change.key → tombstone.stamp.ver < change.stamp.ver
made_behind grid sound i [] q o older tombstone change is known a not_before same = absurd a
made_behind grid sound i (deed ∷ past) q o (inl all) tombstone change is known a not_before same =
    absurd (not_before (subst (λ z. Among change (made z)) (sym all) a))
made_behind grid sound i (deed ∷ past) q o (inr older) tombstone change is known a not_before same =
    let o' = older_past deed past (grid.history i) o in
    ⊎_elim
    (λ here.
    let law : IsLawful (identity grid i) (grid.opening i) (deed ∷ past) =
    older_lawful (identity grid i) (grid.opening i) (deed ∷ past) (grid.history i) o (sound.lawful i) in
    let s = made_stamped (identity grid i) (grid.opening i) change deed past law.0 here in
    let v : change.stamp.ver ≡ 1 + (reach (grid.opening i) change.key past) = s.ver_is in
    let low : tombstone.stamp.ver ≤ reach (grid.opening i) change.key past =
    subst (λ k. tombstone.stamp.ver ≤ reach (grid.opening i) k past) same
    (law_0-holds grid sound i past o' tombstone is (older_ids (id_of tombstone) q past older known)) in
    omega (arith, v, low))
    (λ there. made_behind grid sound i past q o' older tombstone change is known there not_before same)
    (among_either change (made_at deed) (made past) a)

-- A tombstone that expired stood, was a removal, and was stable.
pub record IsExpired (id : Identity) (h : List Deed) (tombstone : Change) : Type 0 where
  pub past : List Deed
  pub older : Older past h
  pub stood : standing tombstone.key past ≡ Some tombstone
  pub removes : is_removal tombstone.kind ≡ true
  pub stable : is_stable id (id_of tombstone) past ≡ true

among_filter_map : (f : List ℕ → Option Change) (change : Change) (named : List (List ℕ)) → Among change (filter_map f named)
    → (key : List ℕ) × (names key named ≡ true) × (f key ≡ Some change)
among_filter_map f change [] a = absurd a
among_filter_map f change (first ∷ rest) a = at_value (f first) refl a (among_filter_map f change rest)
  where
    or_true : (a b : Bool) → b ≡ true → (a || b) ≡ true
    or_true true b h = refl
    or_true false b h = h

    later : (key : List ℕ) × (names key rest ≡ true) × (f key ≡ Some change) → (key : List ℕ) × (names key (first ∷ rest) ≡ true)
        × (f key ≡ Some change)
    later n = (n.0, or_true _ _ n.1, n.2)

    at_value : (o : Option Change) → f first ≡ o → Among change (filter_map f (first ∷ rest))
        → (Among change (filter_map f rest) → (key : List ℕ) × (names key rest ≡ true) × (f key ≡ Some change))
        → (key : List ℕ) × (names key (first ∷ rest) ≡ true) × (f key ≡ Some change)
    at_value None e a next = later (next (rw e at a))
    at_value (Some c) e a next = ⊎_elim
        (λ is. (first, rw (bytes_eq-itself first) refl, e ∙ ap Some (sym is)))
        (λ there. later (next there))
        (some_case c (rw e at a))
      where
        some_case : (c : Change) → Among change (c ∷ filter_map f rest) → (change ≡ c) ⊎ Among change (filter_map f rest)
        some_case c a = a

due_stable : (id : Identity) (moment from : ℕ) (past : List Deed) (change : Change) → is_due_from id moment (Some change) from past ≡ true
    → is_stable id (id_of change) past ≡ true
due_stable id moment from past change h =
    and_right (nat_le timeout (max moment (clock past) - from)) (is_stable id (id_of change) past)
    (and_right (is_removal change.kind) (nat_le timeout (max moment (clock past) - from) && is_stable id (id_of change) past) h)

expired_here : (id : Identity) (opening : ℕ) (deed : Deed) (past : List Deed) → IsLawfulDeed id opening deed past
    → (tombstone : Change) → Among tombstone (expired_at deed past) → IsExpired id past tombstone
expired_here id opening (Call client to seq ask reply own) past law tombstone a = absurd a
expired_here id opening (Asked client seq ask reply) past law tombstone a = absurd a
expired_here id opening (Taken change how) past law tombstone a = absurd a
expired_here id opening (Gave to what) past law tombstone a = absurd a
expired_here id opening (Imaged image) past law tombstone a = absurd a
expired_here id opening (Reported report) past law tombstone a = absurd a
expired_here id opening (Heard report) past law tombstone a = absurd a
expired_here id opening (Swept moment named) past law tombstone a =
    let n = among_filter_map (λ key. removal_of (standing key past)) tombstone named a in
    let d = named_due id opening moment named past law n.0 n.1 in
    let one : d.0 ≡ tombstone = same_removal (standing n.0 past) d.0 d.1.stands d.1.removes n.2 in
    let same : d.0.key ≡ n.0 = (bytes_eq-Decides d.0.key n.0).0 (standing_best n.0 past d.0 d.1.stands).of_key in
    at_one d.0 n.0 one same d.1
  where
    same_removal : (o : Option Change) (c : Change) → o ≡ Some c → is_removal c.kind ≡ true → removal_of o ≡ Some tombstone → c ≡
        tombstone
    same_removal o c e r h = let k : removal_of o ≡ Some c = rw (e, r) refl in cc

    at_one : (c : Change) (key : List ℕ) → c ≡ tombstone → c.key ≡ key → IsDue id moment past key c → IsExpired id past tombstone
    at_one c key one same due = subst (IsExpired id past) one (record {
      past = past;
      older = older_itself past;
      stood = subst (λ k. standing k past ≡ Some c) (sym same) due.stands;
      removes = due.removes;
      stable = due_stable id moment (since key past) past c due.due;
    })

pub expired_found : (id : Identity) (opening : ℕ) (h : List Deed) → IsLawful id opening h
    → (tombstone : Change) → Among tombstone (expired h) → IsExpired id h tombstone
expired_found id opening [] law tombstone a = absurd a
expired_found id opening (deed ∷ past) law tombstone a = ⊎_elim
    (λ here. later (expired_here id opening deed past law.0 tombstone here))
    (λ there. later (expired_found id opening past law.1 tombstone there))
    (among_either tombstone (expired_at deed past) (expired past) a)
  where
    later : IsExpired id past tombstone → IsExpired id (deed ∷ past) tombstone
    later e = record { past = e.past; older = inr e.older; stood = e.stood; removes = e.removes; stable = e.stable }

-- each other member, if it counts, is covered by its report
stable_upto : (me founders n : ℕ) (id : Id) (past : List Deed) → is_stable_upto me founders n id past ≡ true
    → (i : ℕ) → 1 ≤ i → i ≤ n
    → (i ≡ me) ⊎ ((is_counting founders i past ≡ false) ⊎ (is_covered i id (last_heard i past) (ids past) ≡ true))
stable_upto me founders zero id past h i from to = absurd (omega (arith, from, to))
stable_upto me founders (suc n) id past h i from to =
    at_last (cases_le i n) (λ le. stable_upto me founders n id past (and_right _ _ h) i from le)
  where
    is_so : ℕ → Type 0
    is_so k = (k ≡ me) ⊎ ((is_counting founders k past ≡ false) ⊎ (is_covered k id (last_heard k past) (ids past) ≡ true))

    one_of : (b c : Bool) → ((suc n == me) || (not b || c)) ≡ true → (suc n ≡ me) ⊎ ((b ≡ false) ⊎ (c ≡ true))
    one_of false c h = inr (inl refl)
    one_of true c h = at_me (suc n == me) refl h
      where
        same : (suc n == me) ≡ true → suc n ≡ me
        same h = grind (arith, nat_tests)

        at_me : (b : Bool) → (suc n == me) ≡ b → (b || c) ≡ true → (suc n ≡ me) ⊎ ((true ≡ false) ⊎ (c ≡ true))
        at_me true e h = inl (same e)
        at_me false e h = inr (inr h)

    at_last : (i ≤ n) ⊎ (n < i) → (i ≤ n → is_so i) → is_so i
    at_last (inl le) next = next le
    at_last (inr lt) next = let e : i ≡ suc n = omega (arith, lt, to) in subst is_so (sym e) (one_of _ _ (and_left _ _ h))

pub stable_of : (id : Identity) (tombstone : Id) (past : List Deed) → is_stable id tombstone past ≡ true → (i : ℕ) → 1 ≤ i → i ≤ 8
    → (i ≡ id.member)
    ⊎ ((is_counting id.founders i past ≡ false) ⊎ (is_covered i tombstone (last_heard i past) (ids past) ≡ true))
unfolding is_stable
stable_of id tombstone past h i from to = stable_upto id.member id.founders 8 tombstone past h i from to

-- the last report heard of a member was heard, and is of that member
pub last_among : (i : ℕ) (past : List Deed) (report : Report) → last_heard i past ≡ Some report → Among (Heard report) past
    × (report.member ≡ i)
last_among i [] report h = absurd (no h)
  where
    no : None ≡ Some report → ⊥
    no e = cc
last_among i (Call client to seq ask reply own ∷ past) report h = let s = last_among i past report h in (inr s.0, s.1)
last_among i (Asked client seq ask reply ∷ past) report h = let s = last_among i past report h in (inr s.0, s.1)
last_among i (Taken change how ∷ past) report h = let s = last_among i past report h in (inr s.0, s.1)
last_among i (Gave to what ∷ past) report h = let s = last_among i past report h in (inr s.0, s.1)
last_among i (Imaged image ∷ past) report h = let s = last_among i past report h in (inr s.0, s.1)
last_among i (Reported one ∷ past) report h = let s = last_among i past report h in (inr s.0, s.1)
last_among i (Heard one ∷ past) report h =
    at_test (one.member == i) (is_later one (last_heard i past)) refl h (λ e. last_among i past report e)
  where
    member_is : (one.member == i) ≡ true → one.member ≡ i
    member_is h = grind (arith, nat_tests)

    at_test : (b c : Bool) → (one.member == i) ≡ b → (if b && c then Some one else last_heard i past) ≡ Some report
        → (last_heard i past ≡ Some report → Among (Heard report) past × (report.member ≡ i))
        → Among (Heard report) (Heard one ∷ past) × (report.member ≡ i)
    at_test true true e h next = let k : one ≡ report = cc in (inl (ap Heard (sym k)), subst (λ r. r.member ≡ i) k (member_is e))
    at_test true false e h next = let s = next h in (inr s.0, s.1)
    at_test false c e h next = let s = next h in (inr s.0, s.1)
last_among i (Swept moment named ∷ past) report h = let s = last_among i past report h in (inr s.0, s.1)

-- A member is closed at an earlier place.
abbrev pub IsClosedBefore : Grid → ℕ → ℕ → List Deed → Type 0
IsClosedBefore grid me gone past = (place : List Deed) × Older place past × IsClosed grid me gone place

pub heard_made : (grid : Grid) (me : ℕ) (h : List Deed) → AreHeardOrClosed grid me h → (report : Report) → Among (Heard report) h
    → Among (bare (Reported report)) (map bare (grid.history report.member)) ⊎ IsClosedBefore grid me report.member h
heard_made grid me [] all report a = absurd a
heard_made grid me (deed ∷ past) all report (inl is) =
    ⊎_elim (λ made. inl made) (λ closed. inr (past, inr (older_itself past), closed))
    (subst (λ d. IsHeardOrClosed grid me d past) (sym is) all.0)
heard_made grid me (deed ∷ past) all report (inr a) =
    ⊎_elim (λ made. inl made) (λ closed. inr (closed.0, inr closed.1, closed.2)) (heard_made grid me past all.1 report a)

pub older_heard : (grid : Grid) (me : ℕ) (q h : List Deed) → Older q h → AreHeardOrClosed grid me h → AreHeardOrClosed grid me q
older_heard grid me q [] o h = rw o h
older_heard grid me q (first ∷ past) (inl is) h = rw is h
older_heard grid me q (first ∷ past) (inr o) h = older_heard grid me q past o h.1

-- A report that says the same as one that is lawful tells of that place too.
same_report : (id : Identity) (past : List Deed) (made report : Report) → IsReportOf id past made → IsSameReport report made
    → IsReportOf id past report
same_report id past made report law same = record {
  member_is = ap (λ (r : Report). r.member) same ∙ law.member_is;
  at_is = ap (λ (r : Report). r.at) same ∙ law.at_is;
  own_is = ap (λ (r : Report). r.own) same ∙ law.own_is;
  to_is = ap (λ (r : Report). r.to) same ∙ law.to_is;
  vector_is = ap (λ (r : Report). r.vector.ids) same ∙ law.vector_is;
}

reported_same : (id : Identity) (opening : ℕ) (deed : Deed) (past : List Deed) (report : Report) → IsLawfulDeed id opening deed past
    → bare (Reported report) ≡ bare deed → IsReportOf id past report
reported_same id opening (Call client to seq ask reply own) past report law same = absurd cc
reported_same id opening (Asked client seq ask reply) past report law same = absurd cc
reported_same id opening (Taken change how) past report law same = absurd cc
reported_same id opening (Gave to what) past report law same = absurd cc
reported_same id opening (Imaged image) past report law same = absurd cc
reported_same id opening (Reported made_) past report law same = same_report id past made_ report law cc
reported_same id opening (Heard one) past report law same = absurd cc
reported_same id opening (Swept moment named) past report law same = absurd cc

-- the place of a report
pub reported_at : (id : Identity) (opening : ℕ) (h : List Deed) → IsLawful id opening h → (report : Report)
    → Among (bare (Reported report)) (map bare h)
    → (past : List Deed) × Older past h × IsReportOf id past report
reported_at id opening [] law report a = absurd a
reported_at id opening (deed ∷ past) law report (inl is) =
    (past, inr (older_itself past), reported_same id opening deed past report law.0 is)
reported_at id opening (deed ∷ past) law report (inr a) =
    let s = reported_at id opening past law.1 report a in (s.0, inr s.1, s.2)

-- A place of a member at which the change was known, and all of whose own changes are known after `past`.
pub record IsSeen (grid : Grid) (past : List Deed) (i : ℕ) (id : Id) : Type 0 where
  pub place : List Deed
  pub older : Older place (grid.history i)
  pub known : has_id id (ids place) ≡ true
  pub covered : (rv : ℕ) → 1 ≤ rv → rv ≤ top i (ids place) → has_id (record { member = i; rv = rv }) (ids past) ≡ true

-- A report that was made is such a place.
made_seen : (grid : Grid) → IsSound grid → (past : List Deed) (i : ℕ) (id : Id) (report : Report)
    → Among (bare (Reported report)) (map bare (grid.history i)) → is_covered i id (Some report) (ids past) ≡ true
    → IsSeen grid past i id
made_seen grid sound past i id report a h =
    let r = reported_at (identity grid i) (grid.opening i) (grid.history i) (sound.lawful i) report a in
    let is : IsReportOf (identity grid i) r.0 report = r.2 in
    record {
      place = r.0;
      older = r.1;
      known = sym (known_ids report.vector.ids r.0 is.vector_is id) ∙ and_left _ _ h;
      covered = λ rv from to. covers-has i report.own (ids past) (and_right _ _ h) rv from (rw is.own_is to);
    }

-- The report that counts of a member is such a place, or the member is closed.
pub seen_at : (grid : Grid) → IsSound grid → (me : ℕ) (past : List Deed) → AreHeardOrClosed grid me past → (i : ℕ) (id : Id)
    → (o : Option Report) → last_heard i past ≡ o → is_covered i id o (ids past) ≡ true
    → IsSeen grid past i id ⊎ IsClosedBefore grid me i past
seen_at grid sound me past heard i id None e h = absurd (true_isnt_false (sym h))
seen_at grid sound me past heard i id (Some report) e h =
    let l = last_among i past report e in
    ⊎_elim
    (λ made. inl (made_seen grid sound past i id report
    (subst (λ k. Among (bare (Reported report)) (map bare (grid.history k))) l.1 made) h))
    (λ closed. inr (subst (λ k. IsClosedBefore grid me k past) l.1 closed))
    (heard_made grid me past heard report l.0)

-- A change of another member, whose maker was seen, is greater than what it had seen.
pub seen_greater : (grid : Grid) → IsSound grid → (past : List Deed) → (tombstone change : Change) → IsMade grid tombstone
    → IsMade grid change
    → has_id (id_of change) (ids past) ≡ false → tombstone.key ≡ change.key → IsSeen grid past change.stamp.member (id_of tombstone)
    → tombstone.stamp.ver < change.stamp.ver
seen_greater grid sound past tombstone change made_tombstone is unknown same seen =
    made_behind grid sound change.stamp.member (grid.history change.stamp.member) seen.place
    (older_itself (grid.history change.stamp.member)) seen.older
    tombstone change made_tombstone seen.known is not_before same
  where
    not_before : Among change (made seen.place) → ⊥
    not_before before =
        let i = change.stamp.member in
        let below = made_below (identity grid i) (grid.opening i) change seen.place
        (older_lawful (identity grid i) (grid.opening i) seen.place (grid.history i) seen.older (sound.lawful i)) before in
        let from = (made_member (identity grid i) (grid.opening i) change (grid.history i) (sound.lawful i) is).1 in
        true_isnt_false (sym (seen.covered change.stamp.rv from below) ∙ unknown)

-- A change of this member that it didn't know yet is greater than what it knew.
pub own_greater : (grid : Grid) → IsSound grid → (me : ℕ) (past : List Deed) → Older past (grid.history me)
    → (tombstone change : Change) → IsMade grid tombstone → has_id (id_of tombstone) (ids past) ≡ true → IsMade grid change
    → change.stamp.member ≡ me
    → has_id (id_of change) (ids past) ≡ false → tombstone.key ≡ change.key → tombstone.stamp.ver < change.stamp.ver
own_greater grid sound me past o tombstone change made_tombstone known is home unknown same =
    made_behind grid sound me (grid.history me) past (older_itself (grid.history me)) o tombstone change made_tombstone known
    (subst (λ k. Among change (made (grid.history k))) home is)
    (λ before. true_isnt_false (sym (made_known change past before) ∙ unknown))
    same
