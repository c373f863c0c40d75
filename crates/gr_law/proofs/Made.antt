-- Earlier places of a history, and what was made in it.
use Rattle.std.proofs.Common.{◌+◌, suc, ◌≡◌, ◌⊎◌, ℕ, ◌≤◌, List, [], ◌∷◌, Bool, true, false, refl, sym, ap, ◌∙◌, subst, inl, inr, ⊎_elim}
use Rattle.std.proofs.Common.{arith, max, if◌then◌else◌}
use Rattle.std.specs.Prelude.{Option, Some, None, nat_le, length}
use Rattle.gr_history.specs.declared.identity.Identity.{Identity}
use Rattle.gr_stamp.specs.declared.change.Change.{Change}
use Rattle.gr_stamp.specs.declared.change.Kind.{Kind}
use Rattle.gr_stamp.specs.declared.stamp.TheConstants.{LIMIT}
use Rattle.gr_history.specs.declared.ask.Ask.{Ask}
use Rattle.gr_history.specs.declared.reply.Reply.{Reply}
use Rattle.gr_history.specs.declared.reply.Told.{Told}
use Rattle.gr_history.specs.declared.reply.Reply.TheVariants.{Limit, NotReady}
use Rattle.gr_history.specs.Asks.{at_key, key_of, told}
use Rattle.gr_history.specs.Calls.{call_gives, given, nothing_made, made_change, reach, last_rv}
use Rattle.gr_history.specs.Recipients.{recipients, is_ready}
use Rattle.gr_vector.specs.Ids.{Id, has_id, is_same_id, top}
use Rattle.gr_history.specs.declared.deed.Deed.{Deed}
use Rattle.gr_history.specs.declared.done.Done.{Done}
use Rattle.gr_history.specs.declared.deed.Deed.TheVariants.{Call}
use Rattle.gr_history.specs.Ids.{id_of, ids_at, ids}
use Rattle.gr_history.specs.Made.{made_at, made}
use Rattle.gr_history.specs.Standing.{there, present}
use Rattle.gr_law.specs.Grids.{identity, Among, Older, at_place, Grid}
use Rattle.gr_law.specs.Integrity.{IsMade, IsGenuine, IsSound}
use Rattle.gr_history.specs.Lawful.{IsLawful, IsLawfulDeed}
use Rattle.gr_vector.proofs.Tops.{has-top}
use Rattle.gr_vector.proofs.Order.{same_id_itself}
use Rattle.gr_law.proofs.Lists.{among_either, among_right, has_left, has_right, either}

pub older_itself : (h : List Deed) → Older h h
older_itself [] = refl
older_itself (deed ∷ past) = inl refl

pub older_past : (deed : Deed) (q h : List Deed) → Older (deed ∷ q) h → Older q h
older_past deed q [] h = absurd (no h)
  where
    no : deed ∷ q ≡ [] → ⊥
    no e = cc
older_past deed q (first ∷ past) (inl is) = let e : q ≡ past = cc in inr (subst (λ z. Older z past) (sym e) (older_itself past))
older_past deed q (first ∷ past) (inr h) = inr (older_past deed q past h)

pub older_trans : (a b c : List Deed) → Older a b → Older b c → Older a c
older_trans a b [] o q = subst (Older a) q o
older_trans a b (first ∷ past) o (inl is) = subst (Older a) is o
older_trans a b (first ∷ past) o (inr q) = inr (older_trans a b past o q)

pub at_place-older : (n : ℕ) (h : List Deed) → Older (at_place n h) h
at_place-older n [] = refl
at_place-older n (deed ∷ past) = at_test (nat_le (suc (length past)) n) (at_place-older n past)
  where
    at_test : (b : Bool) → Older (at_place n past) past → Older (if b then deed ∷ past else at_place n past) (deed ∷ past)
    at_test true o = inl refl
    at_test false o = inr o

pub older_lawful : (id : Identity) (opening : ℕ) (q h : List Deed) → Older q h → IsLawful id opening h → IsLawful id opening q
older_lawful id opening q [] o h = rw o h
older_lawful id opening q (first ∷ past) (inl is) h = rw is h
older_lawful id opening q (first ∷ past) (inr o) h = older_lawful id opening q past o h.1

pub older_genuine : (grid : Grid) (me : ℕ) (q h : List Deed) → Older q h → IsGenuine grid me h → IsGenuine grid me q
older_genuine grid me q [] o h = rw o h
older_genuine grid me q (first ∷ past) (inl is) h = rw is h
older_genuine grid me q (first ∷ past) (inr o) h = older_genuine grid me q past o h.1

-- what was known is known
pub older_ids : (id : Id) (q h : List Deed) → Older q h → has_id id (ids q) ≡ true → has_id id (ids h) ≡ true
older_ids id q [] o has = subst (λ z. has_id id (ids z) ≡ true) o has
older_ids id q (first ∷ past) (inl is) has = subst (λ z. has_id id (ids z) ≡ true) is has
older_ids id q (first ∷ past) (inr o) has = has_right id (ids_at first) (ids past) (older_ids id q past o has)

pub unknown_past : (id : Id) (deed : Deed) (past : List Deed) → has_id id (ids (deed ∷ past)) ≡ false → has_id id (ids past) ≡ false
unknown_past id deed past h = at_test (either (has_id id (ids past)))
  where
    at_test : (has_id id (ids past) ≡ true) ⊎ (has_id id (ids past) ≡ false) → has_id id (ids past) ≡ false
    at_test (inl is) = let e : has_id id (ids (deed ∷ past)) ≡ true = has_right id (ids_at deed) (ids past) is in cc
    at_test (inr is) = is

-- what is made at a deed has its id among the deed's
pub made_known_at : (change : Change) (deed : Deed) → Among change (made_at deed) → has_id (id_of change) (ids_at deed) ≡ true
made_known_at change (Call client to seq ask reply None) a = absurd a
made_known_at change (Call client to seq ask reply (Some own)) (inl is) = rw is (has_first own)
  where
    has_first : (c : Change) → has_id (id_of c) (id_of c ∷ []) ≡ true
    has_first c = let e : is_same_id (id_of c) (id_of c) ≡ true = same_id_itself (id_of c) in rw e refl
made_known_at change (Call client to seq ask reply (Some own)) (inr a) = absurd a
made_known_at change deed a = absurd a

pub made_known : (change : Change) (h : List Deed) → Among change (made h) → has_id (id_of change) (ids h) ≡ true
made_known change [] a = absurd a
made_known change (deed ∷ past) a = ⊎_elim
    (λ here. has_left (id_of change) (ids_at deed) (ids past) (made_known_at change deed here))
    (λ there. has_right (id_of change) (ids_at deed) (ids past) (made_known change past there))
    (among_either change (made_at deed) (made past) a)

-- A made change has its member, its version and its number from what was before.
pub record IsStamped (me opening : ℕ) (past : List Deed) (change : Change) : Type 0 where
  pub member_is : change.stamp.member ≡ me
  pub ver_is : change.stamp.ver ≡ 1 + (reach opening change.key past)
  pub rv_is : change.stamp.rv ≡ 1 + top me (ids past)

none_made : (change : Change) → None ≡ Some change → ⊥
none_made change e = cc

given_made : (id : Identity) (opening : ℕ) (past : List Deed) (key : List ℕ) (reply : Reply) (kind : Option Kind) (change : Change)
    → (given id opening past key reply kind).made ≡ Some change
    → IsStamped id.member opening past change × ((given id opening past key reply kind).to ≡ recipients id past)
given_made id opening past key reply None change h = absurd (none_made change h)
given_made id opening past key reply (Some kind) change h = at_test (nat_le LIMIT (max (reach opening key past) (last_rv id past))) h
  where
    same : (one : Change) → Some one ≡ Some change → one ≡ change
    same one e = cc

    gave : Bool → Done
    gave b = if b then nothing_made Limit
        else record { reply = reply; made = Some (made_change id opening past key kind); to = recipients id past }

    at_test : (b : Bool) → (gave b).made ≡ Some change
        → IsStamped id.member opening past change × ((gave b).to ≡ recipients id past)
    at_test true h = absurd (none_made change h)
    at_test false h = (
      subst (IsStamped id.member opening past) (same (made_change id opening past key kind) h)
          (record { member_is = refl; ver_is = refl; rv_is = refl }),
      refl,
    )

-- Who makes a change is ready; the change has its stamp from what was before, and goes to the recipients.
pub gives_made : (id : Identity) (opening : ℕ) (past : List Deed) (ask : Ask) (change : Change)
    → (call_gives id opening past ask).made ≡ Some change
    → (is_ready id past ≡ true)
    × (IsStamped id.member opening past change × ((call_gives id opening past ask).to ≡ recipients id past))
gives_made id opening past ask change h = at_test (is_ready id past) h
  where
    answer : Told
    answer = told ask (at_key (there (key_of ask) past) (present (key_of ask) past))

    gave : Bool → Done
    gave b = if b then given id opening past (key_of ask) answer.reply answer.change else nothing_made NotReady

    at_test : (b : Bool) → (gave b).made ≡ Some change
        → (b ≡ true) × (IsStamped id.member opening past change × ((gave b).to ≡ recipients id past))
    at_test true h = (refl, given_made id opening past (key_of ask) answer.reply answer.change change h)
    at_test false h = absurd (none_made change h)

pub made_stamped : (id : Identity) (opening : ℕ) (change : Change) (deed : Deed) (past : List Deed) → IsLawfulDeed id opening deed past
    → Among change (made_at deed) → IsStamped id.member opening past change
made_stamped id opening change (Call client to seq ask reply (Some own)) past law (inl is) =
    (gives_made id opening past ask change (sym (ap (λ d. d.made) law) ∙ ap Some (sym is))).1.0
made_stamped id opening change (Call client to seq ask reply (Some own)) past law (inr a) = absurd a
made_stamped id opening change deed past law a = absurd a

pub made_member : (id : Identity) (opening : ℕ) (change : Change) (h : List Deed) → IsLawful id opening h
    → Among change (made h) → (change.stamp.member ≡ id.member) × (1 ≤ change.stamp.rv)
made_member id opening change [] law a = absurd a
made_member id opening change (deed ∷ past) law a = ⊎_elim
    (λ here. let s = made_stamped id opening change deed past law.0 here in (s.member_is, omega (arith, s.rv_is)))
    (λ there. made_member id opening change past law.1 there)
    (among_either change (made_at deed) (made past) a)

-- what was made before has a lesser number
pub made_below : (id : Identity) (opening : ℕ) (change : Change) (h : List Deed) → IsLawful id opening h
    → Among change (made h) → change.stamp.rv ≤ top id.member (ids h)
made_below id opening change h law a =
    let m = (made_member id opening change h law a).0 in
    has-top id.member change.stamp.rv (ids h) (rw m at (made_known change h a))

-- at a deed at most one change is made
made_one_at : (one two : Change) (deed : Deed) → Among one (made_at deed) → Among two (made_at deed) → one ≡ two
made_one_at one two (Call client to seq ask reply (Some own)) (inl is) (inl too) = is ∙ sym too
made_one_at one two (Call client to seq ask reply (Some own)) (inl is) (inr b) = absurd b
made_one_at one two (Call client to seq ask reply (Some own)) (inr a) b = absurd a
made_one_at one two deed a b = absurd a

-- changes that were made in one history under one number are one
pub made_once : (id : Identity) (opening : ℕ) (one two : Change) (h : List Deed) → IsLawful id opening h
    → Among one (made h) → Among two (made h) → one.stamp.rv ≡ two.stamp.rv → one ≡ two
made_once id opening one two [] law a b same = absurd a
made_once id opening one two (deed ∷ past) law a b same =
    at_places (among_either one (made_at deed) (made past) a) (among_either two (made_at deed) (made past) b)
    (λ a b. made_once id opening one two past law.1 a b same)
  where
    later : (x y : Change) → Among x (made_at deed) → Among y (made past) → x.stamp.rv ≡ y.stamp.rv → ⊥
    later x y a b same =
        let s = made_stamped id opening x deed past law.0 a in
        let t = made_below id opening y past law.1 b in
        omega (arith, s.rv_is, t, same)

    at_places : Among one (made_at deed) ⊎ Among one (made past) → Among two (made_at deed) ⊎ Among two (made past)
        → (Among one (made past) → Among two (made past) → one ≡ two) → one ≡ two
    at_places (inl a) (inl b) next = made_one_at one two deed a b
    at_places (inl a) (inr b) next = absurd (later one two a b same)
    at_places (inr a) (inl b) next = absurd (later two one b a (sym same))
    at_places (inr a) (inr b) next = next a b

-- In a sound record equal ids are equal changes.
pub made_unique : (grid : Grid) → IsSound grid → (one two : Change) → IsMade grid one → IsMade grid two → id_of one ≡ id_of two → one ≡
    two
made_unique grid sound one two a b same =
    let m : one.stamp.member ≡ two.stamp.member = ap (λ i. i.member) same in
    let r : one.stamp.rv ≡ two.stamp.rv = ap (λ i. i.rv) same in
    made_once (identity grid two.stamp.member) (grid.opening two.stamp.member) one two (grid.history two.stamp.member)
    (sound.lawful two.stamp.member)
    (subst (λ k. Among one (made (grid.history k))) m a) b r

pub older_made : (change : Change) (q h : List Deed) → Older q h → Among change (made q) → Among change (made h)
older_made change q [] o a = subst (λ z. Among change (made z)) o a
older_made change q (first ∷ past) (inl is) a = subst (λ z. Among change (made z)) is a
older_made change q (first ∷ past) (inr o) a = among_right change (made_at first) (made past) (older_made change q past o a)
