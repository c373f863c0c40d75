-- What is done is lawful, and what is taken in and heard was made before.
use Rattle.std.proofs.Common.{zero, suc, ◌≡◌, ◌⊎◌, ℕ, ◌≤◌, ◌<◌, List, [], ◌∷◌, Bool, true, false, ◌&&◌, ◌||◌, not, ◌==◌, refl, sym, ap, ◌∙◌}
use Rattle.std.proofs.Common.{subst, inl, inr, arith, length, reverse, if◌then◌else◌}
use Rattle.std.specs.Prelude.{Option, Some, None, map}
use Rattle.gr_value.specs.Shard.{shard_of}
use Rattle.gr_stamp.specs.declared.change.Change.{Change}
use Rattle.gr_vector.specs.declared.report.Report.{Report}
use Rattle.gr_vector.specs.Ids.{has_id}
use Rattle.gr_history.specs.declared.deed.Deed.{Deed}
use Rattle.gr_history.specs.declared.deed.Deed.TheVariants.{Call, Asked, Taken, Gave, Imaged, Reported, Heard, Swept}
use Rattle.gr_history.specs.Asks.{key_of}
use Rattle.gr_history.specs.Ids.{id_of, ids}
use Rattle.gr_history.specs.Made.{made, made_at}
use Rattle.gr_history.specs.Lawful.{IsLawful, IsLawfulDeed, AreInOrder}
use Rattle.gr_history.specs.Room.{bare}
use Rattle.gr_law.specs.Grids.{Among, identity}
use Rattle.gr_law.specs.Integrity.{IsMade, IsGenuine, HasNoImage, IsGift, IsHeardDeed, IsSound}
use Rattle.gr_law.proofs.Lists.{among_left, among_reverse}
use Rattle.gr_law.proofs.Made.{made_stamped}
use Rattle.gr_script.specs.Rules.{Heading, IsMember, home_of}
use Rattle.gr_script.specs.Steps.{is_gone}
use Rattle.gr_world.specs.Departures.{taken_of, closing_report, IsClosing}
use Rattle.gr_world.specs.Events.{Event, Did, Peeked, Gathered, history}
use Rattle.gr_world.specs.Doings.{Doing, Calls, Takes, Gives, Merges, Reports, Hears, Sweeps, Asks, deed_of}
use Rattle.gr_world.specs.Named.{made_by_deed, or_else, made_by, reports, numbered}
use Rattle.gr_world.specs.Courses.{identity_at, does, for_each, unless, delivers, hears, closes_all, takes_new_all, copies, hands_over}
use Rattle.gr_world.specs.Causes.{grid_at, IsNextEvent, IsCausal}
use Rattle.gr_world.proofs.Events.{history_here, more_made, gives_key}
use Rattle.gr_world.proofs.Walks.{closes_keep, hands_keep}
use Rattle.gr_world.proofs.Whole.{sound_course}

-- what is asked of a thing that is done
abbrev pub May : Heading → List ℕ → ℕ → ℕ → List Event → Doing → Type 0
May heading gone m s before (Calls client number ask) = (m ≡ home_of heading client) × (s ≡ shard_of (key_of ask) heading.shards)
May heading gone m s before (Takes change) = IsMade (grid_at heading s before) change
May heading gone m s before (Gives to what) = Unit {0}
May heading gone m s before (Merges image) = (heading.founders < m) × IsGift (grid_at heading s before) m image
    × HasNoImage (history m s before) × AreInOrder image.rows
May heading gone m s before Reports = Unit {0}
May heading gone m s before (Hears report) = IsHeardDeed (grid_at heading s before) (Heard report) ⊎ IsClosing gone (Heard report) (history m s before)
May heading gone m s before (Sweeps moment) = Unit {0}
May heading gone m s before (Asks client number ask) = m ≡ home_of heading client

pub does_causal : (heading : Heading) (gone : List ℕ) (m s : ℕ) (doing : Doing) (before : List Event) → IsMember heading m
    → May heading gone m s before doing → IsCausal heading gone before → IsCausal heading gone (does heading m s doing before)
does_causal heading gone m s doing before member may h = (next doing may, h)
  where
    next : (d : Doing) → May heading gone m s before d
        → IsNextEvent heading gone (Did m s (deed_of (identity_at heading m s) heading.floor (history m s before) d)) before
    next (Calls client number ask) may =
        (record { from = member.0; to = member.1; lawful = refl; genuine = tt; once = tt; heard = inl tt }, may)
    next (Takes change) may =
        (record { from = member.0; to = member.1; lawful = refl; genuine = may; once = tt; heard = inl tt }, tt)
    next (Gives to what) may =
        (record { from = member.0; to = member.1; lawful = tt; genuine = tt; once = tt; heard = inl tt }, tt)
    next (Merges image) may =
        (record { from = member.0; to = member.1; lawful = may.3; genuine = (may.0, may.1); once = may.2; heard = inl tt }, tt)
    next Reports may = (
      record {
        from = member.0;
        to = member.1;
        lawful =
            record { member_is = refl; at_is = refl; own_is = refl; to_is = refl; vector_is = refl };
        genuine = tt;
        once = tt;
        heard = inl tt;
      },
      tt,
    )
    next (Hears report) may =
        (record { from = member.0; to = member.1; lawful = tt; genuine = tt; once = tt; heard = may }, tt)
    next (Sweeps moment) may =
        (record { from = member.0; to = member.1; lawful = refl; genuine = tt; once = tt; heard = inl tt }, tt)
    next (Asks client number ask) may =
        (record { from = member.0; to = member.1; lawful = refl; genuine = tt; once = tt; heard = inl tt }, may)

-- for_each keeps what each number's act keeps
pub each_keeps : (P : ℕ → List Event → Type 0) (n : ℕ) (act : ℕ → List Event → List Event) (before : List Event)
    → P 0 before → ((k : ℕ) (now : List Event) → k < n → P k now → P (suc k) (act k now)) → P n (for_each n act before)
each_keeps P zero act before first step = first
each_keeps P (suc n) act before first step =
    step n (for_each n act before) (omega arith) (each_keeps P n act before first (λ k now less h. step k now (omega (arith, less)) h))

-- the change that a step made was made in its member's history, at the shard of its key
made_here : (heading : Heading) (gone : List ℕ) (m s : ℕ) (deed : Deed) (before : List Event) (client number : ℕ) (change : Change)
    → IsNextEvent heading gone (Did m s deed) before → made_by_deed client number deed ≡ Some change
    → IsMade (grid_at heading (shard_of change.key heading.shards) (Did m s deed ∷ before)) change
made_here heading gone m s (Call own to seq ask reply made_) before client number change next e = at_test (own == client && seq == number) e
  where
    here : made_ ≡ Some change
        → IsMade (grid_at heading (shard_of change.key heading.shards) (Did m s (Call own to seq ask reply made_) ∷ before)) change
    here is =
        let deed : Deed = Call own to seq ask reply made_ in
        let law : IsLawfulDeed (identity (grid_at heading s before) m) heading.floor deed (history m s before) = next.0.lawful in
        let made_is : Among change (made_at (Call own to seq ask reply made_)) =
        subst (λ o. Among change (made_at (Call own to seq ask reply o))) (sym is) (inl refl) in
        let member : change.stamp.member ≡ m =
        (made_stamped (identity (grid_at heading s before) m) heading.floor change deed (history m s before) law made_is).member_is in
        let key : change.key ≡ key_of ask =
        gives_key (identity (grid_at heading s before) m) heading.floor (history m s before) ask change
        (sym (ap (λ d. d.made) law) ∙ is) in
        let shard : shard_of change.key heading.shards ≡ s = ap (λ k. shard_of k heading.shards) key ∙ sym next.1.1 in
        subst (λ k. Among change (made (history change.stamp.member k (Did m s deed ∷ before)))) (sym shard)
        (subst (λ i. Among change (made (history i s (Did m s deed ∷ before)))) (sym member)
        (subst (λ past. Among change (made past)) (sym (history_here m s deed before))
        (among_left change (made_at deed) (made (history m s before)) made_is)))

    at_test : (b : Bool) → (if b then made_ else None) ≡ Some change
        → IsMade (grid_at heading (shard_of change.key heading.shards) (Did m s (Call own to seq ask reply made_) ∷ before)) change
    at_test true is = here is
    at_test false is = absurd (no is)
      where
        no : None ≡ Some change → ⊥
        no e = cc
made_here heading gone m s deed before client number change next e = absurd (cc)

pub made_by_made : (heading : Heading) (gone : List ℕ) (client number : ℕ) (course : List Event) (change : Change)
    → IsCausal heading gone course → made_by client number course ≡ Some change → IsMade (grid_at heading (shard_of change.key heading.shards) course) change
made_by_made heading gone client number [] change h e = absurd (cc)
made_by_made heading gone client number (Did m s deed ∷ before) change h e =
    at_deed (made_by_deed client number deed) refl (made_by_made heading gone client number before change h.1) e
  where
    at_deed : (o : Option Change) → made_by_deed client number deed ≡ o
        → (made_by client number before ≡ Some change → IsMade (grid_at heading (shard_of change.key heading.shards) before) change)
        → or_else o (made_by client number before) ≡ Some change
        → IsMade (grid_at heading (shard_of change.key heading.shards) (Did m s deed ∷ before)) change
    at_deed None is earlier e = more_made change.stamp.member (shard_of change.key heading.shards) change (Did m s deed) before (earlier
        e)
    at_deed (Some one) is earlier e = made_here heading gone m s deed before client number change h.0 (is ∙ e)
made_by_made heading gone client number (Peeked own seq peek ∷ before) change h e =
    made_by_made heading gone client number before change h.1 e
made_by_made heading gone client number (Gathered own seq replies ∷ before) change h e =
    made_by_made heading gone client number before change h.1 e

-- a report that was counted was made
pub reports_made : (report : Report) (past : List Deed) → Among report (reports past) → Among (Reported report) past
reports_made report [] a = absurd a
reports_made report (Call client to seq ask reply made ∷ past) a = inr (reports_made report past a)
reports_made report (Asked client seq ask reply ∷ past) a = inr (reports_made report past a)
reports_made report (Taken change how ∷ past) a = inr (reports_made report past a)
reports_made report (Gave to what ∷ past) a = inr (reports_made report past a)
reports_made report (Imaged image ∷ past) a = inr (reports_made report past a)
reports_made report (Reported one ∷ past) (inl is) = inl (ap Reported is)
reports_made report (Reported one ∷ past) (inr a) = inr (reports_made report past a)
reports_made report (Heard one ∷ past) a = inr (reports_made report past a)
reports_made report (Swept moment keys ∷ past) a = inr (reports_made report past a)

pub numbered_among : (number : ℕ) (all : List Report) (report : Report) → numbered number all ≡ Some report → Among report all
numbered_among number [] report e = absurd (cc)
numbered_among number (first ∷ older) report e = at_test (suc (length older) == number) (numbered_among number older report) e
  where
    at_test : (b : Bool) → (numbered number older ≡ Some report → Among report older)
        → (if b then Some first else numbered number older) ≡ Some report → Among report (first ∷ older)
    at_test true next e = let k : first ≡ report = cc in inl (sym k)
    at_test false next e = inr (next e)

-- a deed is among the others, room to spare apart
pub among_bare : (deed : Deed) (past : List Deed) → Among deed past → Among (bare deed) (map bare past)
among_bare deed [] a = absurd a
among_bare deed (one ∷ past) (inl is) = inl (ap bare is)
among_bare deed (one ∷ past) (inr a) = inr (among_bare deed past a)

pub reported_by : (id : _) (opening : ℕ) (past : List Deed) (report : Report) → IsLawful id opening past → Among (Reported report) past
    → report.member ≡ id.member
reported_by id opening [] report law a = absurd a
reported_by id opening (deed ∷ past) report law (inl is) =
    (subst (λ d. IsLawfulDeed id opening d past) (sym is) law.0).member_is
reported_by id opening (deed ∷ past) report law (inr a) = reported_by id opening past report law.1 a

pub hears_causal : (heading : Heading) (gone : List ℕ) (member of number shard : ℕ) (now : List Event) → heading.members ≤ 8
    → IsMember heading member → IsCausal heading gone now
    → IsCausal heading gone (hears heading member shard (numbered number (reports (history of shard now))) now)
hears_causal heading gone member of number shard now few is h = at_report (numbered number (reports (history of shard now))) refl
  where
    at_report : (o : Option Report) → numbered number (reports (history of shard now)) ≡ o
        → IsCausal heading gone (hears heading member shard o now)
    at_report None e = h
    at_report (Some report) e =
        let made_is : Among (Reported report) (history of shard now) = reports_made report _ (numbered_among number _ report e) in
        let sound : IsSound (grid_at heading shard now) = sound_course heading gone now few h shard in
        let who : report.member ≡ of =
        reported_by (identity (grid_at heading shard now) of) heading.floor _ report (sound.lawful of) made_is in
        does_causal heading gone member shard (Hears report) now is
        (inl (among_bare (Reported report) (history report.member shard now)
        (subst (λ i. Among (Reported report) (history i shard now)) (sym who) made_is))) h

pub delivers_causal : (heading : Heading) (gone : List ℕ) (member client number : ℕ) (before : List Event) → IsMember heading member
    → IsCausal heading gone before
    → IsCausal heading gone (delivers heading gone member (made_by client number before) before)
delivers_causal heading gone member client number before is h = at_change (made_by client number before) refl
  where
    at_test : (change : Change) → made_by client number before ≡ Some change → (b : Bool)
        → IsCausal heading gone (unless b (does heading member (shard_of change.key heading.shards) (Takes change)) before)
    at_test change e true = h
    at_test change e false =
        does_causal heading gone member (shard_of change.key heading.shards) (Takes change) before is
        (made_by_made heading gone client number before change h e) h

    at_change : (o : Option Change) → made_by client number before ≡ o → IsCausal heading gone (delivers heading gone member o before)
    at_change None e = h
    at_change (Some change) e = at_test change e (is_gone gone change.stamp.member
        && not (has_id (id_of change) (ids (history member (shard_of change.key heading.shards) before))))

-- ---- departures

-- a member hears the closing reports of those that departed
pub closes_causal : (heading : Heading) (gone : List ℕ) (member shard : ℕ) (now : List Event) → IsMember heading member
    → IsCausal heading gone now → IsCausal heading gone (closes_all heading gone member shard now)
closes_causal heading gone member shard now is h =
    closes_keep heading gone (IsCausal heading gone) member shard
    (λ of e mid k. does_causal heading gone member shard (Hears (closing_report of (history member shard mid))) mid is (inr (of, e, refl)) k)
    now h

-- what a member took in was made, so another one may take it in
taken_genuine : (of : ℕ) (heading : Heading) (giver shard : ℕ) (now : List Event) (past : List Deed)
    → IsGenuine (grid_at heading shard now) giver past → (change : Change) → Among change (taken_of of past)
    → IsMade (grid_at heading shard now) change
taken_genuine of heading giver shard now [] own change a = absurd a
taken_genuine of heading giver shard now (Call client to seq ask reply one ∷ past) own change a =
    taken_genuine of heading giver shard now past own.1 change a
taken_genuine of heading giver shard now (Asked client seq ask reply ∷ past) own change a =
    taken_genuine of heading giver shard now past own.1 change a
taken_genuine of heading giver shard now (Taken one how ∷ past) own change a =
    at_test (one.stamp.member == of) (taken_genuine of heading giver shard now past own.1 change) a
  where
    at_test : (b : Bool) → (Among change (taken_of of past) → IsMade (grid_at heading shard now) change)
        → Among change (if b then one ∷ taken_of of past else taken_of of past) → IsMade (grid_at heading shard now) change
    at_test true next (inl is) = subst (IsMade (grid_at heading shard now)) (sym is) own.0
    at_test true next (inr a) = next a
    at_test false next a = next a
taken_genuine of heading giver shard now (Gave to what ∷ past) own change a =
    taken_genuine of heading giver shard now past own.1 change a
taken_genuine of heading giver shard now (Imaged image ∷ past) own change a =
    taken_genuine of heading giver shard now past own.1 change a
taken_genuine of heading giver shard now (Reported report ∷ past) own change a =
    taken_genuine of heading giver shard now past own.1 change a
taken_genuine of heading giver shard now (Heard report ∷ past) own change a =
    taken_genuine of heading giver shard now past own.1 change a
taken_genuine of heading giver shard now (Swept moment keys ∷ past) own change a =
    taken_genuine of heading giver shard now past own.1 change a

takes_new_causal : (heading : Heading) (gone : List ℕ) (member shard : ℕ) (changes : List Change) (now : List Event) → IsMember heading member
    → ((change : Change) → Among change changes → IsMade (grid_at heading shard now) change)
    → IsCausal heading gone now → IsCausal heading gone (takes_new_all heading member shard changes now)
takes_new_causal heading gone member shard [] now is made_all h = h
takes_new_causal heading gone member shard (change ∷ rest) now is made_all h =
    at_test (has_id (id_of change) (ids (history member shard now)))
    (λ mid made_mid k. takes_new_causal heading gone member shard rest mid is made_mid k)
  where
    at_test : (b : Bool)
        → ((mid : List Event) → ((one : Change) → Among one rest → IsMade (grid_at heading shard mid) one)
        → IsCausal heading gone mid → IsCausal heading gone (takes_new_all heading member shard rest mid))
        → IsCausal heading gone
        (takes_new_all heading member shard rest (unless b (does heading member shard (Takes change)) now))
    at_test true next = next now (λ one a. made_all one (inr a)) h
    at_test false next =
        next (does heading member shard (Takes change) now)
        (λ one a. more_made one.stamp.member shard one
        (Did member shard (deed_of (identity_at heading member shard) heading.floor (history member shard now) (Takes change))) now
        (made_all one (inr a)))
        (does_causal heading gone member shard (Takes change) now is (made_all change (inl refl)) h)

copies_causal : (heading : Heading) (gone : List ℕ) (of shard taker giver : ℕ) (now : List Event) → heading.members ≤ 8
    → IsMember heading taker → IsCausal heading gone now → IsCausal heading gone (copies heading of shard taker giver now)
copies_causal heading gone of shard taker giver now few is h =
    takes_new_causal heading gone taker shard (reverse (taken_of of (history giver shard now))) now is
    (λ change a. taken_genuine of heading giver shard now (history giver shard now)
    ((sound_course heading gone now few h shard).genuine giver) change (among_reverse change _ a)) h

pub hands_over_causal : (heading : Heading) (gone : List ℕ) (of shard : ℕ) (now : List Event) → heading.members ≤ 8
    → IsCausal heading gone now → IsCausal heading gone (hands_over heading gone of shard now)
hands_over_causal heading gone of shard now few h =
    hands_keep heading gone (IsCausal heading gone) of shard
    (λ taker giver less mid k. copies_causal heading gone of shard (suc taker) (suc giver) mid few (omega arith, omega (arith, less)) k) now h

-- Where more departed, more may be closed.
closes_more : (m : ℕ) (gone : List ℕ) (deed : Deed) (past : List Deed) → IsClosing gone deed past → IsClosing (m ∷ gone) deed past
closes_more m gone (Heard report) past closing = (closing.0, gone_more (m == closing.0) closing.1, closing.2)
  where
    gone_more : (b : Bool) → is_gone gone closing.0 ≡ true → (b || is_gone gone closing.0) ≡ true
    gone_more true e = refl
    gone_more false e = e
closes_more m gone (Call client to seq ask reply own) past closing = closing
closes_more m gone (Asked client seq ask reply) past closing = closing
closes_more m gone (Taken change verdict) past closing = closing
closes_more m gone (Gave to what) past closing = closing
closes_more m gone (Imaged image) past closing = closing
closes_more m gone (Reported report) past closing = closing
closes_more m gone (Swept moment expired) past closing = closing

pub causal_more : (heading : Heading) (m : ℕ) (gone : List ℕ) (now : List Event) → IsCausal heading gone now
    → IsCausal heading (m ∷ gone) now
causal_more heading m gone [] h = tt
causal_more heading m gone (Did i s deed ∷ before) h = (
  (
    record {
      from = h.0.0.from;
      to = h.0.0.to;
      lawful = h.0.0.lawful;
      genuine = h.0.0.genuine;
      once = h.0.0.once;
      heard = more h.0.0.heard;
    },
    h.0.1,
  ),
  causal_more heading m gone before h.1,
)
  where
    more : IsHeardDeed (grid_at heading s before) deed ⊎ IsClosing gone deed (history i s before)
        → IsHeardDeed (grid_at heading s before) deed ⊎ IsClosing (m ∷ gone) deed (history i s before)
    more (inl one) = inl one
    more (inr closing) = inr (closes_more m gone deed (history i s before) closing)
causal_more heading m gone (Peeked client number peek ∷ before) h = (h.0, causal_more heading m gone before h.1)
causal_more heading m gone (Gathered client number replies ∷ before) h = (h.0, causal_more heading m gone before h.1)
