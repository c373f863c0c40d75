-- Which keys each kind of deed turns.
use Rattle.std.proofs.Common.{suc, ◌≡◌, ◌⊎◌, ℕ, ◌+◌, ◌≤◌, List, [], ◌∷◌, Bool, true, false, not, refl, sym, ap, ◌∙◌, subst}
use Rattle.std.proofs.Common.{inl, inr, ⊎_elim, arith, bytes_eq, if◌then◌else◌}
use Rattle.std.specs.Prelude.{Option, Some, None, map}
use Rattle.std.specs.Option.{option_and_then}
use Rattle.std.specs.List.Sorted.{IsStrictlySortedBy}
use Rattle.std.proofs.lemmas.Slice.Eq.{bytes_eq-Decides}
use Rattle.std.proofs.lemmas.List.Kept.{IsStrictlySortedBy-filter}
use Rattle.gr_stamp.specs.declared.change.Change.{Change}
use Rattle.gr_stamp.specs.declared.change.Kind.{Kind}
use Rattle.gr_stamp.specs.declared.change.Kind.TheVariants.{Put, Invalid, Remove}
use Rattle.gr_stamp.specs.Version.{beats}
use Rattle.gr_stamp.specs.Winner.{winner, wins, is_there, put_value, is_removal}
use Rattle.gr_history.specs.declared.identity.Identity.{Identity}
use Rattle.gr_history.specs.declared.ask.Ask.{Ask}
use Rattle.gr_history.specs.declared.reply.Reply.{Reply}
use Rattle.gr_history.specs.Regions.{keys_of}
use Rattle.gr_oql.specs.Question.{Question}
use Rattle.gr_vector.specs.Ids.{has_id}
use Rattle.gr_history.specs.declared.image.What.{What}
use Rattle.gr_vector.specs.declared.report.Report.{Report}
use Rattle.gr_history.specs.declared.verdict.Verdict.TheVariants.{Applied, Discarded, Repeat}
use Rattle.gr_history.specs.declared.deed.Deed.{Deed}
use Rattle.gr_history.specs.declared.deed.Deed.TheVariants.{Call, Taken, Gave, Reported, Heard, Swept}
use Rattle.gr_history.specs.Ids.{id_of, ids}
use Rattle.gr_history.specs.Standing.{changes, names, lasting, standing, there, present}
use Rattle.gr_history.specs.Stable.{is_due}
use Rattle.gr_history.specs.Calls.{ver_of, reach}
use Rattle.gr_law.specs.Grids.{Among}
use Rattle.gr_history.specs.Lawful.{IsLawfulDeed}
use Rattle.gr_history.specs.Verdicts.{verdict, verdict_over}
use Rattle.gr_law.proofs.Lists.{among_filter, either}
use Rattle.gr_law.proofs.Winners.{ver-beats}
use Rattle.gr_law.proofs.Made.{made_stamped}
use Rattle.gr_law.proofs.Steps.{named_due}
use Rattle.gr_history.specs.Turned.{is_other, turns, turned_keys, turned_by, turned_at, turned, events_at}
use Rattle.gr_oql.specs.declared.event.Turned.{Turned}
use Rattle.gr_oql.specs.Events.{told_all}
use Rattle.gr_law.proofs.Keys.{IsInOrder, in_order_keys, same_keys}
use Rattle.gr_law.proofs.Turning.{won_other, same_unturned, among_turned}
use Rattle.gr_law.proofs.Waiting.{none_turned}

true_isnt : true ≡ false → ⊥
true_isnt e = cc

-- The turned keys are those of any list in order that has these keys and no others.
pub turned_exactly : (deed : Deed) (past : List Deed) (keys : List (List ℕ)) → IsInOrder keys
    → ((key : List ℕ) → turns deed past key ≡ true → Among key keys) → ((key : List ℕ) → Among key keys → turns deed past key ≡ true)
    → turned_keys deed past ≡ keys
turned_exactly deed past keys in_order all only =
    same_keys (turned_keys deed past) keys (IsStrictlySortedBy-filter _ (turns deed past) _ (in_order_keys (changes (deed ∷ past))))
    in_order
    (λ key a. all key (among_filter (turns deed past) key (keys_of (changes (deed ∷ past))) a).1)
    (λ key a. among_turned deed past key (only key a))

-- Deeds at which nothing comes in and nothing is dropped turn nothing.
none : (deed : Deed) (past : List Deed) → ((key : List ℕ) → standing key (deed ∷ past) ≡ standing key past) → turned deed past ≡ []
none deed past same = ap (map (turned_at deed past)) (none_turned deed past same)

pub turned_unmade : (client seq : ℕ) (ask : Ask) (reply : Reply) (to : ℕ) (past : List Deed) → turned (Call client to seq ask reply None)
    past ≡ []
turned_unmade client seq ask reply to past = none (Call client to seq ask reply None) past (λ key. refl)

pub turned_repeat : (change : Change) (past : List Deed) → turned (Taken change Repeat) past ≡ []
turned_repeat change past = none (Taken change Repeat) past (λ key. refl)

pub turned_gave : (to : ℕ) (what : What) (past : List Deed) → turned (Gave to what) past ≡ []
turned_gave to what past = none (Gave to what) past (λ key. refl)

pub turned_reported : (report : Report) (past : List Deed) → turned (Reported report) past ≡ []
turned_reported report past = none (Reported report) past (λ key. refl)

pub turned_heard : (report : Report) (past : List Deed) → turned (Heard report) past ≡ []
turned_heard report past = none (Heard report) past (λ key. refl)

-- One change that comes in turns its key where it wins.
same_key : (key : List ℕ) → bytes_eq key key ≡ true
same_key key = (bytes_eq-Decides key key).1 refl

abbrev pub BringsOne : Deed → List Deed → Change → Type 0
BringsOne deed past change = (key : List ℕ) → standing key (deed ∷ past) ≡ winner key (change ∷ lasting key past)

pub one_standing : (deed : Deed) (past : List Deed) (change : Change) → BringsOne deed past change
    → standing change.key (deed ∷ past) ≡ (if wins change (standing change.key past) then Some change else standing change.key past)
one_standing deed past change one = one change.key ∙ rw (same_key change.key) refl

one_elsewhere : (deed : Deed) (past : List Deed) (change : Change) → BringsOne deed past change → (key : List ℕ) → bytes_eq change.key
    key ≡ false
    → standing key (deed ∷ past) ≡ standing key past
one_elsewhere deed past change one key apart = one key ∙ rw apart refl

abbrev pub turned_to : Change → List Deed → Turned
turned_to change past = turned_by change.key (standing change.key past) (Some change)

pub turned_one : (deed : Deed) (past : List Deed) (change : Change) → BringsOne deed past change
    → wins change (standing change.key past) ≡ true → turned deed past ≡ turned_to change past ∷ []
unfolding IsStrictlySortedBy
turned_one deed past change one won =
    let stands : standing change.key (deed ∷ past) ≡ Some change = rw won at (one_standing deed past change one) in
    let turns_it : turns deed past change.key ≡ true = ap (is_other (standing change.key past)) stands ∙ won_other change (standing
    change.key past) won in
    let keys : turned_keys deed past ≡ change.key ∷ [] = turned_exactly deed past (change.key ∷ []) (tt, tt)
    (λ key turned. at_key key turned (either (bytes_eq change.key key)))
    (λ key a. ⊎_elim (λ is. subst (λ k. turns deed past k ≡ true) (sym is) turns_it) (λ no. absurd no) a) in
    ap (map (turned_at deed past)) keys
    ∙ ap (λ o. turned_by change.key (standing change.key past) o ∷ []) stands
  where
    at_key : (key : List ℕ) → turns deed past key ≡ true → (bytes_eq change.key key ≡ true) ⊎ (bytes_eq change.key key ≡ false) → Among
        key (change.key ∷ [])
    at_key key turned (inl is) = inl (sym ((bytes_eq-Decides change.key key).0 is))
    at_key key turned (inr apart) =
        absurd (true_isnt (sym turned ∙ same_unturned deed past key (one_elsewhere deed past change one key apart)))

pub turned_beaten : (deed : Deed) (past : List Deed) (change : Change) → BringsOne deed past change
    → wins change (standing change.key past) ≡ false → turned deed past ≡ []
turned_beaten deed past change one lost = none deed past (λ key. at_key key (either (bytes_eq change.key key)))
  where
    at_key : (key : List ℕ) → (bytes_eq change.key key ≡ true) ⊎ (bytes_eq change.key key ≡ false) → standing key (deed ∷ past) ≡
        standing key past
    at_key key (inl is) =
        subst (λ k. standing k (deed ∷ past) ≡ standing k past) ((bytes_eq-Decides change.key key).0 is) (rw lost at (one_standing deed
        past change one))
    at_key key (inr apart) = one_elsewhere deed past change one key apart

-- what is made here wins
made_wins : (change : Change) (held : Option Change) (low : ℕ) → ver_of held ≤ low → change.stamp.ver ≡ suc low → wins change held ≡ true
made_wins change None low h is = refl
made_wins change (Some one) low h is = ver-beats change.stamp one.stamp (omega (arith, h, is))

one_more : (n : ℕ) → 1 + n ≡ suc n
one_more n = omega arith

-- A lawful call that makes a change turns the change's key.
pub turned_call : (id : Identity) (opening client seq : ℕ) (ask : Ask) (reply : Reply) (change : Change) (to : ℕ) (past : List Deed)
    → IsLawfulDeed id opening (Call client to seq ask reply (Some change)) past
    → turned (Call client to seq ask reply (Some change)) past ≡ turned_to change past ∷ []
turned_call id opening client seq ask reply change to past law =
    let s = made_stamped id opening change (Call client to seq ask reply (Some change)) past law (inl refl) in
    turned_one (Call client to seq ask reply (Some change)) past change (λ key. refl)
    (made_wins change (standing change.key past) (reach opening change.key past) (omega arith) (s.ver_is ∙ one_more (reach opening
    change.key past)))

-- So does a change that is applied; one that is discarded turns nothing.
applied_wins : (known : Bool) (held : Option Change) (change : Change) → Applied ≡ verdict_over known held change → wins change held ≡
    true
applied_wins true held change h = absurd (cc)
applied_wins false None change h = refl
applied_wins false (Some one) change h = at_test (beats change.stamp one.stamp) h
  where
    at_test : (b : Bool) → Applied ≡ (if b then Applied else Discarded) → b ≡ true
    at_test true e = refl
    at_test false e = absurd (cc)

discarded_loses : (known : Bool) (held : Option Change) (change : Change) → Discarded ≡ verdict_over known held change → wins change held
    ≡ false
discarded_loses true held change h = absurd (cc)
discarded_loses false None change h = absurd (cc)
discarded_loses false (Some one) change h = at_test (beats change.stamp one.stamp) h
  where
    at_test : (b : Bool) → Discarded ≡ (if b then Applied else Discarded) → b ≡ false
    at_test true e = absurd (cc)
    at_test false e = refl

pub turned_applied : (change : Change) (past : List Deed) → Applied ≡ verdict past change → turned (Taken change Applied) past ≡
    turned_to change past ∷ []
turned_applied change past law =
    turned_one (Taken change Applied) past change (λ key. refl) (applied_wins (has_id (id_of change) (ids past)) (standing change.key
    past) change law)

pub turned_discarded : (change : Change) (past : List Deed) → Discarded ≡ verdict past change → turned (Taken change Discarded) past ≡ []
turned_discarded change past law =
    turned_beaten (Taken change Discarded) past change (λ key. refl) (discarded_loses (has_id (id_of change) (ids past)) (standing
    change.key past) change law)

-- A sweep turns the keys that it names, and tells a query nothing.
among_names : (key : List ℕ) (keys : List (List ℕ)) → names key keys ≡ true → Among key keys
among_names key [] h = absurd (cc)
among_names key (first ∷ keys) h = at_test (either (bytes_eq first key)) (among_names key keys)
  where
    at_test : (bytes_eq first key ≡ true) ⊎ (bytes_eq first key ≡ false) → (names key keys ≡ true → Among key keys) → Among key (first ∷
        keys)
    at_test (inl is) next = inl (sym ((bytes_eq-Decides first key).0 is))
    at_test (inr apart) next = inr (next (rw apart at h))

names_among : (key : List ℕ) (keys : List (List ℕ)) → Among key keys → names key keys ≡ true
names_among key [] a = absurd a
names_among key (first ∷ keys) (inl is) = rw (is, same_key first) refl
names_among key (first ∷ keys) (inr a) = let e : names key keys ≡ true = names_among key keys a in grind arith

swept_in_order : (id : Identity) (opening moment : ℕ) (named : List (List ℕ)) (past : List Deed) → IsLawfulDeed id opening (Swept moment
    named) past → IsInOrder named
swept_in_order id opening moment named past law =
    subst IsInOrder (sym law) (IsStrictlySortedBy-filter _ (is_due id moment past) (keys_of (changes past)) (in_order_keys (changes
    past)))

pub swept_keys : (id : Identity) (opening moment : ℕ) (named : List (List ℕ)) (past : List Deed) → IsLawfulDeed id opening (Swept moment
    named) past
    → turned_keys (Swept moment named) past ≡ named
swept_keys id opening moment named past law =
    turned_exactly (Swept moment named) past named (swept_in_order id opening moment named past law)
    (λ key turned. at_named key turned (either (names key named)))
    (λ key a. turns_it key (names_among key named a))
  where
    at_named : (key : List ℕ) → turns (Swept moment named) past key ≡ true → (names key named ≡ true) ⊎ (names key named ≡ false) → Among
        key named
    at_named key turned (inl is) = among_names key named is
    at_named key turned (inr isnt) =
        let same : standing key (Swept moment named ∷ past) ≡ standing key past = rw isnt refl in
        absurd (true_isnt (sym turned ∙ same_unturned (Swept moment named) past key same))

    turns_it : (key : List ℕ) → names key named ≡ true → turns (Swept moment named) past key ≡ true
    turns_it key is =
        let due = named_due id opening moment named past law key is in
        rw (due.1.stands, is) refl

removal_absent : (change : Change) → is_removal change.kind ≡ true → put_value change.kind ≡ None
removal_absent change h = at_kind change.kind h
  where
    at_kind : (kind : Kind) → is_removal kind ≡ true → put_value kind ≡ None
    at_kind (Put value) h = absurd (cc)
    at_kind Invalid h = absurd (cc)
    at_kind Remove h = refl

pub swept_absent : (id : Identity) (opening moment : ℕ) (named : List (List ℕ)) (past : List Deed) → IsLawfulDeed id opening (Swept
    moment named) past
    → (key : List ℕ) → names key named ≡ true → (present key past ≡ None) × (present key (Swept moment named ∷ past) ≡ None)
swept_absent id opening moment named past law key is =
    let due = named_due id opening moment named past law key is in
    (ap (option_and_then (λ c. put_value c.kind)) due.1.stands ∙ removal_absent due.0 due.1.removes, rw is refl)

-- The key of a removal isn't there, neither before a sweep that names it nor behind.
pub swept_not_there : (id : Identity) (opening moment : ℕ) (named : List (List ℕ)) (past : List Deed) → IsLawfulDeed id opening (Swept
    moment named) past
    → (key : List ℕ) → names key named ≡ true → (there key past ≡ false) × (there key (Swept moment named ∷ past) ≡ false)
swept_not_there id opening moment named past law key is =
    let due = named_due id opening moment named past law key is in
    (ap is_there due.1.stands ∙ ap not due.1.removes, rw is refl)

untold : (question : Question) (deed : Deed) (past : List Deed) (keys : List (List ℕ))
    → ((key : List ℕ) → Among key keys → (present key past ≡ None) × (present key (deed ∷ past) ≡ None))
    → told_all question (map (turned_at deed past) keys) ≡ []
untold question deed past [] absent = refl
untold question deed past (key ∷ keys) absent =
    let here = absent key (inl refl) in
    rw (here.0, here.1) (untold question deed past keys (λ other a. absent other (inr a)))

pub swept_untold : (id : Identity) (opening moment : ℕ) (named : List (List ℕ)) (past : List Deed) → IsLawfulDeed id opening (Swept
    moment named) past
    → (question : Question) → events_at question (Swept moment named) past ≡ []
swept_untold id opening moment named past law question =
    ap (λ keys. told_all question (map (turned_at (Swept moment named) past) keys)) (swept_keys id opening moment named past law)
    ∙ untold question (Swept moment named) past named (λ key a. swept_absent id opening moment named past law key (names_among key named
    a))
